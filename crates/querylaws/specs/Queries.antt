-- Queries, the readers of the step rule that one holds, and what the next common page makes of it.
--
--   cursor_in q i        cursor number i
--   with_cursor q i c    the query with that cursor in its place
--   new_query            eight cursors that no seek has moved
--   reader_at s sh q i   the rule's reader that cursor i is, on the lists that sh places in the card s
--   lead_in s sh q       the first of them
--   others_in s sh k q   those behind it, of k in all
--   moved_in s sh i c b  the cursor c of list i after a seek for b
--   total f cs          f of each cursor, summed
--   seeks_of q, looks_of q  the seeks and the looks of all cursors
--   mark_found a         the mark of an answer: page + 1, or spent_mark
--   next_for s sh k q b  the next page at or above b that the k lists share, as the step rule finds it
--   list_after i b d     the list to be sought after number i was sought for b and found d: the lead again after a
--                       larger page, else the next
--   seek_on s sh n q i b the query after n seeks: of list i for b, and each later one of list_after for the page found
--   Seekable s sh i c   c is a cursor that seeks on list i have made, and its counts have room for one more
--   Apt s sh k q b      the k lists are there, seeks on them made their cursors, and none has passed a page from b on
--   Running s sh k q b  so, and no count will wrap
--   Turned s sh k q b t t is the query after the seeks for its next page at or above b, with the mark of that page: its
--                       readers and totals are the rule's, and from behind a page that was found it is Running
use Rattle.std.specs.Prelude.{cond, ◌&&◌, ◌≡◌, List, [], ◌∷◌, ℕ, zero, suc, ◌+◌, ◌-◌, ◌*◌, ◌^◌, ◌≤◌, ◌<◌, ltb, length, get_or, set, replicate}
use Rattle.rules.specs.Seek.{Found, none, page}
use Rattle.rules.specs.Common.{Reader}
use Rattle.commonlaws.specs.Readers.{Ready, reached_by, left_in}
use Rattle.commonlaws.specs.Next.{Next, next_common}
use Rattle.walklaws.specs.declared.Cursor.{Cursor}
use Rattle.walklaws.specs.Cursors.{spent_mark, unused, rule_cursor, Held, moved_to}
use Rattle.querylaws.specs.declared.Query.{Query}
use Rattle.querylaws.specs.declared.Turn.{Turn}
use Rattle.querylaws.specs.Lists.{span, form_in, pages_at, bound_in, ListAt, Lists}

abbrev pub cursor_in : Query → ℕ → Cursor
cursor_in q i = get_or q.cursors i unused

abbrev pub with_cursor : Query → ℕ → Cursor → Query
with_cursor q i c = record { cursors = set q.cursors i c }

unfoldable pub new_query : Query
new_query = record { cursors = replicate 8 unused }

unfoldable pub reader_at : List ℕ → List ℕ → Query → ℕ → Reader
reader_at s sh q i = record {
  form = form_in s sh i;
  pages = pages_at s sh i;
  cursor = rule_cursor (form_in s sh i) (bound_in sh) (pages_at s sh i) (cursor_in q i);
}

abbrev pub lead_in : List ℕ → List ℕ → Query → Reader
lead_in s sh q = reader_at s sh q 0

abbrev pub others_in : List ℕ → List ℕ → ℕ → Query → List Reader
others_in s sh k q = span (reader_at s sh q) 1 (k - 1)

abbrev pub moved_in : List ℕ → List ℕ → ℕ → Cursor → ℕ → Cursor
moved_in s sh i c b = moved_to (form_in s sh i) (bound_in sh) (pages_at s sh i) c b

unfoldable pub total : (Cursor → ℕ) → List Cursor → ℕ
total f [] = 0
total f (c ∷ cs) = f c + total f cs

unfoldable pub seeks_of : Query → ℕ
seeks_of q = total (λ c. c.seeks) q.cursors

unfoldable pub looks_of : Query → ℕ
looks_of q = total (λ c. c.looks) q.cursors

unfoldable pub mark_found : Found → ℕ
mark_found (none _) = spent_mark
mark_found (page c _) = c + 1

abbrev pub next_for : List ℕ → List ℕ → ℕ → Query → ℕ → Next
next_for s sh k q b = next_common (bound_in sh) (lead_in s sh q) (others_in s sh k q) b

unfoldable pub list_after : ℕ → ℕ → ℕ → ℕ
list_after i b d = cond (ltb 0 i && ltb b d) 0 (i + 1)

unfoldable pub seek_on : List ℕ → List ℕ → ℕ → Query → ℕ → ℕ → Query
seek_on s sh zero q i b = q
seek_on s sh (suc n) q i b =
    let c : Cursor = moved_in s sh i (cursor_in q i) b in
    seek_on s sh n (with_cursor q i c) (list_after i b (c.mark - 1)) (c.mark - 1)

pub record Seekable (s sh : List ℕ) (i : ℕ) (c : Cursor) : Type 0 where
  pub list : ListAt s sh i
  pub held : Held (form_in s sh i) (bound_in sh) (pages_at s sh i) c
  pub seeks : c.seeks < 2 ^ 31
  pub looks : c.looks < 2 ^ 31

pub record Apt (s sh : List ℕ) (k : ℕ) (q : Query) (b : ℕ) : Type 0 where
  pub lists : Lists s sh k
  pub eight : length q.cursors ≡ 8
  pub held : (i : ℕ) → i < k → Held (form_in s sh i) (bound_in sh) (pages_at s sh i) (cursor_in q i)
  pub ready : (i : ℕ) → i < k → Ready (bound_in sh) b (reader_at s sh q i)

-- each page of the lead that is left costs at most k seeks, and each look is paid for by a seek or a word passed
pub record Running (s sh : List ℕ) (k : ℕ) (q : Query) (b : ℕ) : Type 0 where
  pub apt : Apt s sh k q b
  pub seeks : seeks_of q + k * left_in b (lead_in s sh q) + 1 ≤ 2 ^ 28
  pub looks : looks_of q ≤ seeks_of q + reached_by (bound_in sh) (lead_in s sh q ∷ others_in s sh k q)

pub record Turned (s sh : List ℕ) (k : ℕ) (q : Query) (b : ℕ) (t : Turn) : Type 0 where
  pub query : t.q ≡ seek_on s sh (next_for s sh k q b).seeks q 0 b
  pub eight : length t.q.cursors ≡ 8
  pub mark : t.mark ≡ mark_found (next_for s sh k q b).found
  pub lead : lead_in s sh t.q ≡ (next_for s sh k q b).lead
  pub others : others_in s sh k t.q ≡ (next_for s sh k q b).others
  pub seeks : seeks_of t.q ≡ seeks_of q + (next_for s sh k q b).seeks
  pub looks : looks_of t.q ≡ looks_of q + (next_for s sh k q b).looks
  pub narrow : (seeks_of t.q ≤ 2 ^ 28) × (looks_of t.q ≤ 2 ^ 29)
  pub running : (d : ℕ) → (t.mark ≡ spent_mark → ⊥) → t.mark ≤ d → Running s sh k t.q d
