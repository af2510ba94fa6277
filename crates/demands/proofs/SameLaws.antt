-- Common pages of one list named several times: every round agrees, and each cursor is sought once a page.
use mathlib.Core.Bool.{cond}
use mathlib.Core.Path.{◌≡◌, refl, sym, ap, ◌∙◌}
use mathlib.Core.List.{List, [], ◌∷◌, ◌++◌, append_assoc}
use Prim.Native.Nat.{ℕ, suc, ◌+◌, ◌-◌, ◌*◌, ◌≤◌, ◌<◌}
use native.Mathlib.Omega.{arith}
use lib.ListN.{length, get_or, drop, replicate}
use Rattle.rules.specs.Bytes.{same}
use Rattle.rules.specs.Term.{Word}
use Rattle.rules.specs.List.{form_of}
use Rattle.rules.specs.Seek.{Found, none, page, upper_words}
use Rattle.rules.specs.Common.{Reader, reader, readers_of, seek_by, moved_by, agreed, before, stopped, agree, counted}
use Rattle.rules.specs.Common.{nothing}
use Rattle.rules.specs.Common.{lead_pages, other_pages, common}
use Rattle.rules.specs.Plain.{first_from, at_least}
use Rattle.listlaws.proofs.BlockLaws.{same_refl}
use Rattle.seeklaws.specs.Cursors.{first_at}
use Rattle.seeklaws.proofs.FirstLaws.{first_at_self, first_found, found_at_page}
use Rattle.commonlaws.specs.Readers.{pages_of, Rise, Ready, AllReady, left_in}
use Rattle.commonlaws.specs.Next.{Turned, hit, turn_of, behind_lead, turned, rounds_to, rounds_by}
use Rattle.commonlaws.specs.Next.{fresh_lead, fresh_others}
use Rattle.commonlaws.proofs.SharedLaws.{first_none, from_none, from_zero, from_le, from_first}
use Rattle.commonlaws.proofs.AgreeLaws.{seek_plain, sought_first, sought_least, all_ready_more, agree_same}
use Rattle.commonlaws.proofs.TurnLaws.{this, To, turned_none, turned_page, turned_carried}
use Rattle.commonlaws.proofs.FuelLaws.{rounds_turn, by_turns}
use Rattle.commonlaws.proofs.NextLaws.{length_pages}
use Rattle.commonlaws.proofs.PickLaws.{Pick, here, there, lead_picked, pick_length}
use Rattle.commonlaws.proofs.CommonLaws.{readers_pages, common_from_lem, lead_ready, others_ready}
use Rattle.demands.specs.Asking.{pages_at, pages_named, upper_runs, lead_on, others_on, times, reading_it}

-- all are the list xs
abbrev pub Same : List ℕ → List (List ℕ) → Type 0
Same xs ls = ls ≡ replicate (length ls) xs

same_head : (xs l : List ℕ) (ls : List (List ℕ)) → Same xs (l ∷ ls) → l ≡ xs
same_head xs l ls e = ap (λ (x : List (List ℕ)). get_or x 0 []) e

same_tail : (xs l : List ℕ) (ls : List (List ℕ)) → Same xs (l ∷ ls) → Same xs ls
same_tail xs l ls e = ap (λ (x : List (List ℕ)). drop 1 x) e

pick_same : (xs : List ℕ) {ls rest : List (List ℕ)} {p : List ℕ} → Pick ls p rest → Same xs ls
    → (p ≡ xs) × Same xs rest
pick_same xs (here {l = l} {ls = ls}) e = (same_head xs l ls e, same_tail xs l ls e)
pick_same xs (there {l = l} {ls = ls} k) e =
    let t = pick_same xs k (same_tail xs l ls e) in
    (t.0, rw (same_head xs l ls e) (ap (λ (x : List (List ℕ)). xs ∷ x) t.1))

pub named_same : (ts : List Word) (t : ℕ) (terms : List ℕ) → terms ≡ replicate (length terms) t
    → Same (pages_at ts t) (pages_named ts terms)
unfolding pages_named
named_same ts t [] e = refl
named_same ts t (x ∷ terms) e =
    let h : x ≡ t = ap (λ (l : List ℕ). get_or l 0 0) e in
    rw h (ap (λ (l : List (List ℕ)). pages_at ts t ∷ l) (named_same ts t terms (ap (λ (l : List ℕ). drop 1 l) e)))

-- the others, each sought once for a page that their list holds, agree
agree_all : (U c i : ℕ) (xs : List ℕ) → first_from c 0 xs ≡ page c i → (rs : List Reader) → AllReady U c rs
    → Same xs (pages_of rs) → ((agree U c rs).ended ≡ agreed) × ((agree U c rs).seeks ≡ length rs)
unfolding agree before moved_by stopped pages_of
agree_all U c i xs f [] k e = (refl, refl)
agree_all U c i xs f (r ∷ rs) k e =
    let t = agree_all U c i xs f rs k.1 (same_tail xs r.pages (pages_of rs) e) in
    let h = same_head xs r.pages (pages_of rs) e in
    let g : (seek_by U r c).found ≡ page c i = seek_plain U c r k.0 ∙ rw h f in
    let q = agree_same U c r rs c i g (omega arith) in
    rw q (t.0, omega (arith, t.1))

module _ (U : ℕ) where
  -- a seek for each cursor and page that is left, and the lead's last
  abbrev Exact : Reader → List Reader → ℕ → Type 0
  Exact lead others b = Same lead.pages (pages_of others) → (n : ℕ) → left_in b lead ≤ n
      → (rounds_to U lead others b (suc n)).seeks ≡ (1 + length others) * left_in b lead + 1

  module _ (lead : Reader) (others : List Reader) (b : ℕ) (k : Ready U b lead) (a : AllReady U b others) where
    abbrev t : Turned
    t = turned U lead others b

    abbrev left : ℕ
    left = left_in b lead

    exact_none : (m : ℕ) → (this U b lead others).found ≡ none m → Exact lead others b
    unfolding rounds_by counted nothing behind_lead stopped
    exact_none m e s r h =
        let n : at_least b lead.pages ≡ [] =
        from_none b lead.pages (first_none b lead.pages m (sym (seek_plain U b lead k) ∙ e)) in
        rw (rounds_turn U lead others b k a (suc r), turned_none U b lead others m e, n) (omega arith)

    module _ (c i : ℕ) (e : (this U b lead others).found ≡ page c i) (s : Same lead.pages (pages_of others)) where
      own_first : first_from c 0 lead.pages ≡ page c i
      own_first =
          let f = sought_first U b lead k c i e in
          let q : first_at c lead.pages ≡ i = rw f.2 at (first_at_self 0 U lead.pages k.rises i f.1) in
          first_found c lead.pages ∙ rw q (found_at_page lead.pages i f.1 ∙ rw f.2)

      agrees : (t.turn ≡ hit c i) × (t.seeks ≡ 1 + length others)
      unfolding behind_lead turn_of
      agrees =
          let p = turned_page U b lead others c i e in
          let r = all_ready_more U b c others a (sought_least U b lead k c i e) in
          let g = agree_all U c i lead.pages own_first others r s in (
            ap (λ (t : Turned). t.turn) p ∙ ap (turn_of c i) g.0,
            ap (λ (t : Turned). t.seeks) p ∙ omega (arith, g.1),
          )

      begins : at_least b lead.pages ≡ c ∷ at_least (c + 1) lead.pages
      begins =
          let f = sought_first U b lead k c i e in
          rw (f.0, f.2) at (from_first 0 U lead.pages k.rises b (rw f.0 f.1))

      exact_page : ((d : ℕ) → To t.turn d → Exact t.lead t.others d) → (n : ℕ) → left_in b lead ≤ n
          → (rounds_to U lead others b (suc n)).seeks ≡ (1 + length others) * left_in b lead + 1
      unfolding rounds_by counted
      exact_page ih n h =
          let q = agrees in
          let v = turned_carried U b lead others k a in
          let o : length t.others ≡ length others =
          sym (length_pages t.others) ∙ ap length v.pages ∙ length_pages others in
          let z : suc (n - 1) ≡ n = omega (arith, h, ap length begins) in
          let g : left_in (c + 1) t.lead ≤ n - 1 = rw v.lead_pages_lem (omega (arith, h, ap length begins)) in
          let r = rw z at (ih (c + 1) (rw q.0 refl) (rw (v.lead_pages_lem, v.pages) s) (n - 1) g) in
          rw (rounds_turn U lead others b k a (suc n), q.0, q.1, rw (o, v.lead_pages_lem) at r, begins) (omega arith)

  -- by what the lead's seek finds
  rounds_exact : (lead : Reader) (others : List Reader) (b : ℕ) → Ready U b lead → AllReady U b others
      → Exact lead others b
  rounds_exact = by_turns U Exact step
    where
      step : (lead : Reader) (others : List Reader) (b : ℕ) → Ready U b lead → AllReady U b others
          → let t = turned U lead others b in
          ((d : ℕ) → To t.turn d → Exact t.lead t.others d) → Exact lead others b
      step lead others b k a ih s n h = go (this U b lead others).found refl
        where
          go : (f : Found) → (this U b lead others).found ≡ f
              → (rounds_to U lead others b (suc n)).seeks ≡ (1 + length others) * left_in b lead + 1
          go (none m) e = exact_none lead others b k a m e s n h
          go (page c i) e = exact_page lead others b k a c i e s ih n h

  -- k · m + 1 seeks where all k lists are one of m pages
  pub common_same : (ver : ℕ) (ls : List (List ℕ)) (xs : List ℕ) → 0 < length ls → Rise U ls → Same xs ls
      → (common ver U ls).seeks ≡ length ls * length xs + 1
  unfolding common fresh_lead fresh_others reader
  common_same ver ls xs some r e =
      let q = pick_same xs (lead_picked ls some) e in
      let p = readers_pages ver U (other_pages ls) in
      let k : 1 + length (fresh_others ver U ls) ≡ length ls =
      ap (λ (n : ℕ). 1 + n) (sym (length_pages (fresh_others ver U ls)) ∙ ap length p)
      ∙ pick_length (lead_picked ls some) in
      let n : ℕ = length (lead_pages ls) in
      let z : n + 1 ≡ suc n = omega arith in
      let x = rounds_exact (fresh_lead ver U ls) (fresh_others ver U ls) 0 (lead_ready ver U ls some r 0)
      (others_ready ver U ls some r 0) (rw (p, q.0) q.1) n (from_le 0 (lead_pages ls)) in
      let m : left_in 0 (fresh_lead ver U ls) ≡ length xs = ap length (from_zero (lead_pages ls) ∙ q.0) in
      rw (common_from_lem ver U ls 0 (n + 1), z) (x ∙ rw (k, m))

-- ---- a word named twice

-- a reader for each list
module _ (xs : List ℕ) where
  readers_times : (ver N : ℕ) (ls : List (List ℕ)) → reading_it xs (readers_of ver N ls) ≡ times xs ls
  unfolding reading_it times readers_of reader
  readers_times ver N [] = refl
  readers_times ver N (l ∷ ls) = ap (λ (n : ℕ). cond (same xs l) 1 0 + n) (readers_times ver N ls)

  pick_times : {ls rest : List (List ℕ)} {p : List ℕ} → Pick ls p rest → times xs (p ∷ rest) ≡ times xs ls
  unfolding times
  pick_times here = refl
  pick_times (there k) = omega (arith, pick_times k)

  pub begins_times : (ver N : ℕ) (ls : List (List ℕ)) → 0 < length ls
      → reading_it xs (lead_on ver N ls ∷ others_on ver N ls) ≡ times xs ls
  unfolding reading_it times reader
  begins_times ver N ls h = rw (readers_times ver N (other_pages ls)) (pick_times (lead_picked ls h))

  times_append : (ks ls : List (List ℕ)) → times xs (ks ++ ls) ≡ times xs ks + times xs ls
  unfolding times
  times_append [] ls = omega arith
  times_append (l ∷ ks) ls = omega (arith, times_append ks ls)

  times_self : (ls : List (List ℕ)) → times xs (xs ∷ ls) ≡ 1 + times xs ls
  unfolding times
  times_self ls = rw (same_refl xs)

length_readers : (ver N : ℕ) (ls : List (List ℕ)) → length (readers_of ver N ls) ≡ length ls
unfolding readers_of
length_readers ver N [] = refl
length_readers ver N (l ∷ ls) = ap suc (length_readers ver N ls)

pub begins_length : (ver N : ℕ) (ls : List (List ℕ)) → 0 < length ls
    → length (lead_on ver N ls ∷ others_on ver N ls) ≡ length ls
begins_length ver N ls h = omega (arith, length_readers ver N (other_pages ls), pick_length (lead_picked ls h))

runs_append : (ver N : ℕ) (ks ls : List (List ℕ)) → upper_runs ver N (ks ++ ls) ≡ upper_runs ver N ks + upper_runs ver N ls
unfolding upper_runs
runs_append ver N [] ls = omega arith
runs_append ver N (l ∷ ks) ls = omega (arith, runs_append ver N ks ls)

named_append : (ts : List Word) (a b : List ℕ) → pages_named ts (a ++ b) ≡ pages_named ts a ++ pages_named ts b
unfolding pages_named
named_append ts [] b = refl
named_append ts (t ∷ a) b = ap (λ (l : List (List ℕ)). pages_at ts t ∷ l) (named_append ts a b)

-- what adds up over the lists counts a word's list where the word stands
module _ (ts : List Word) (t : ℕ) (f : List (List ℕ) → ℕ) (n : ℕ)
    (add : (ks ls : List (List ℕ)) → f (ks ++ ls) ≡ f ks + f ls)
    (one : (ls : List (List ℕ)) → f (pages_at ts t ∷ ls) ≡ n + f ls) where
  counts_once : (a b : List ℕ) → f (pages_named ts (a ++ (t ∷ b))) ≡ n + f (pages_named ts (a ++ b))
  unfolding pages_named
  counts_once a b =
      let x = ap f (named_append ts a (t ∷ b)) ∙ add (pages_named ts a) (pages_at ts t ∷ pages_named ts b) in
      let y = ap f (named_append ts a b) ∙ add (pages_named ts a) (pages_named ts b) in
      omega (arith, x, y, one (pages_named ts b))

  pub counts_twice : (a b c : List ℕ)
      → f (pages_named ts (a ++ (t ∷ (b ++ (t ∷ c))))) ≡ 2 * n + f (pages_named ts (a ++ (b ++ c)))
  counts_twice a b c =
      let x = counts_once a (b ++ (t ∷ c)) in
      let y = rw (append_assoc a b (t ∷ c), append_assoc a b c) at (counts_once (a ++ b) c) in
      omega (arith, x, y)

pub times_twice : (ts : List Word) (t : ℕ) (a b c : List ℕ)
    → times (pages_at ts t) (pages_named ts (a ++ (t ∷ (b ++ (t ∷ c)))))
    ≡ 2 + times (pages_at ts t) (pages_named ts (a ++ (b ++ c)))
times_twice ts t a b c =
    let xs : List ℕ = pages_at ts t in
    omega (arith, counts_twice ts t (times xs) 1 (times_append xs) (times_self xs) a b c)

pub runs_twice : (ver N : ℕ) (ts : List Word) (t : ℕ) (a b c : List ℕ)
    → upper_runs ver N (pages_named ts (a ++ (t ∷ (b ++ (t ∷ c)))))
    ≡ 2 * upper_words (form_of ver N (length (pages_at ts t))) N (pages_at ts t)
    + upper_runs ver N (pages_named ts (a ++ (b ++ c)))
unfolding upper_runs
runs_twice ver N ts t a b c =
    counts_twice ts t (upper_runs ver N) (upper_words (form_of ver N (length (pages_at ts t))) N (pages_at ts t))
    (runs_append ver N) (λ ls. refl) a b c
