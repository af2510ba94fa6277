-- Common pages: the step rule's pages are those of plain reading whichever list leads, its seeks are
-- at most k * m + 1, and its looks at most its seeks and the words of the lists' upper runs.
use mathlib.Core.Bool.{Bool, true, false, ◌&&◌, false≢true, and-false, or-true}
use mathlib.Core.Path.{◌≡◌, refl, sym, ap, ap₂, ◌∙◌, subst}
use mathlib.Core.List.{List, [], ◌∷◌}
use Prim.Native.Nat.{ℕ, suc, ◌+◌, ◌*◌, ◌≤◌, ◌<◌}
use native.Mathlib.Nat.{mul-le-mul_left, le_trans}
use native.Mathlib.Decide.{ℕ_discrete}
use native.Mathlib.Omega.{arith}
use borrow.Author.Tests.{le-leb, lt-ltb}
use lib.Dec.{eqb}
use lib.ListN.{length, get_or, take}
use lib.Seq.{take_all}
use Rattle.rules.specs.List.{rising, Form, form_of}
use Rattle.rules.specs.Seek.{fresh, none, Sought, upper_words, gone, move, seek}
use Rattle.rules.specs.Common.{reader, readers_of, seek_by, counted, nothing, rounds, lead_pages, other_pages}
use Rattle.rules.specs.Common.{common_from, common}
use Rattle.rules.specs.Plain.{at_least, member, in_all, shared_by, common_pages}
use Rattle.listlaws.proofs.RisingLaws.{rising_parts}
use Rattle.seeklaws.proofs.SeekLaws.{behind_fresh}
use Rattle.commonlaws.specs.Readers.{pages_of, Rise, Ready, AllReady, reached_by, words_of, words_in}
use Rattle.commonlaws.specs.Readers.{shared_from, left_in}
use Rattle.commonlaws.specs.Next.{rounds_to, fresh_lead, fresh_others}
use Rattle.commonlaws.specs.Outcomes.{Tallied}
use Rattle.commonlaws.proofs.SharedLaws.{member_here, member_past, from_zero, from_le}
use Rattle.commonlaws.proofs.SharedLaws.{shared_yes, shared_no, shared_le, shared_from_lem}
use Rattle.commonlaws.proofs.NextLaws.{length_pages}
use Rattle.commonlaws.proofs.TallyLaws.{rounds_tallied}
use Rattle.commonlaws.proofs.PickLaws.{Pick, lead_leads, lead_picked, pick_in_all}
use Rattle.commonlaws.proofs.PickLaws.{pick_words, pick_length, pick_rise}

-- ---- rising lists with the same members are one

rising_cons : (lo U x : ℕ) (xs : List ℕ) → lo ≤ x → x < U → rising (x + 1) U xs ≡ true → rising lo U (x ∷ xs) ≡ true
unfolding rising
rising_cons lo U x xs h l r = rw (le-leb lo x h, lt-ltb x U l) r

rising_lower : (lo d U : ℕ) (xs : List ℕ) → d ≤ lo → rising lo U xs ≡ true → rising d U xs ≡ true
unfolding rising
rising_lower lo d U [] h r = refl
rising_lower lo d U (x ∷ xs) h r =
    let t = rising_parts lo U x xs r in
    rising_cons d U x xs (omega (arith, t.0)) t.1 t.2

member_least : (lo U x : ℕ) (xs : List ℕ) → rising lo U xs ≡ true → member x xs ≡ true → lo ≤ x
unfolding member
member_least lo U x [] r m = absurd (false≢true m)
member_least lo U x (y ∷ xs) r m =
    let t = rising_parts lo U y xs r in
    elim (ℕ_discrete x y) [
      | yes e ↦ omega (arith, t.0)
      | no e ↦ omega (arith, t.0, member_least (y + 1) U x xs t.2 (sym (member_past x y xs e) ∙ m))
    ]

member_tail : (lo U x : ℕ) (xs : List ℕ) → rising lo U xs ≡ true → x < lo → member x xs ≡ false
member_tail lo U x xs r h = go (member x xs) refl
  where
    go : (b : Bool) → member x xs ≡ b → member x xs ≡ false
    go true e = absurd (omega (arith, member_least lo U x xs r e))
    go false e = e

rising_same : (lo U : ℕ) (xs ys : List ℕ) → rising lo U xs ≡ true → rising lo U ys ≡ true
    → ((x : ℕ) → member x xs ≡ member x ys) → xs ≡ ys
unfolding member
rising_same lo U [] [] r q e = refl
rising_same lo U [] (y ∷ ys) r q e = absurd (false≢true (e y ∙ member_here y ys))
rising_same lo U (x ∷ xs) [] r q e = absurd (false≢true (sym (e x) ∙ member_here x xs))
rising_same lo U (x ∷ xs) (y ∷ ys) r q e =
    let t = rising_parts lo U x xs r in
    let s = rising_parts lo U y ys q in
    let a =
    member_least y U x (y ∷ ys) (rising_cons y U y ys (omega arith) s.1 s.2) (sym (e x) ∙ member_here x xs) in
    let b = member_least x U y (x ∷ xs) (rising_cons x U x xs (omega arith) t.1 t.2) (e y ∙ member_here y ys) in
    let same : y ≡ x = omega arith in
    let q' = rw same at s.2 in
    ap₂ ◌∷◌ (sym same) (rising_same (x + 1) U xs ys t.2 q' (λ z.
    elim (ℕ_discrete z x) [
      | yes d ↦ member_tail (x + 1) U z xs t.2 (omega arith) ∙ sym (member_tail (x + 1) U z ys q' (omega arith))
      | no d ↦ sym (member_past z x xs d) ∙ e z ∙ member_past z y ys (λ g. d (g ∙ same))
    ]))

-- ---- shared pages

module _ (ls : List (List ℕ)) where
  shared_member : (x : ℕ) (xs : List ℕ) → member x (shared_by ls xs) ≡ member x xs && in_all x ls
  unfolding shared_by member
  shared_member x [] = refl
  shared_member x (y ∷ xs) = go (shared_member x xs) (in_all y ls) refl (ℕ_discrete x y)
    where
      go : member x (shared_by ls xs) ≡ member x xs && in_all x ls → (b : Bool) → in_all y ls ≡ b → Dec (x ≡ y)
          → member x (shared_by ls (y ∷ xs)) ≡ member x (y ∷ xs) && in_all x ls
      go ih true e (yes d) =
          subst (λ (n : ℕ). member n (shared_by ls (y ∷ xs)) ≡ member n (y ∷ xs) && in_all n ls) (sym d)
          (rw (shared_yes ls y xs e, member_here y (shared_by ls xs), member_here y xs) (sym e))
      go ih true e (no d) = rw (shared_yes ls y xs e, member_past x y (shared_by ls xs) d, member_past x y xs d) ih
      go ih false e (yes d) =
          let z : in_all x ls ≡ false = ap (λ (n : ℕ). in_all n ls) d ∙ e in
          rw (shared_no ls y xs e, z) (rw z at ih ∙ and-false (member x xs) ∙ sym (and-false (member x (y ∷ xs))))
      go ih false e (no d) = rw (shared_no ls y xs e, member_past x y xs d) ih

  shared_rising : (lo U : ℕ) (xs : List ℕ) → rising lo U xs ≡ true → rising lo U (shared_by ls xs) ≡ true
  unfolding shared_by
  shared_rising lo U [] r = r
  shared_rising lo U (x ∷ xs) r = go (shared_rising (x + 1) U xs (rising_parts lo U x xs r).2) (in_all x ls) refl
    where
      go : rising (x + 1) U (shared_by ls xs) ≡ true → (b : Bool) → in_all x ls ≡ b
          → rising lo U (shared_by ls (x ∷ xs)) ≡ true
      go ih true e = rw (shared_yes ls x xs e)
          (let t = rising_parts lo U x xs r in rising_cons lo U x (shared_by ls xs) t.0 t.1 ih)
      go ih false e = rw (shared_no ls x xs e)
          (rising_lower (x + 1) lo U (shared_by ls xs) (omega (arith, (rising_parts lo U x xs r).0)) ih)

-- whichever list is picked, it shares the same pages with the others
pub pick_common : (U : ℕ) (ls : List (List ℕ)) (p : List ℕ) (rest : List (List ℕ)) → 0 < length ls → Pick ls p rest
    → Rise U ls → shared_by rest p ≡ common_pages ls
unfolding common_pages in_all
pick_common U [] p rest h k r = absurd (omega arith)
pick_common U (l ∷ ls) p rest h k r =
    rising_same 0 U (shared_by rest p) (shared_by ls l) (shared_rising rest 0 U p (pick_rise U k r).0)
    (shared_rising ls 0 U l r.0)
    (λ x. shared_member rest x p ∙ pick_in_all x k ∙ sym (shared_member ls x l))

-- ---- fresh readers

pub fresh_ready : (f : Form) (U b : ℕ) (l : List ℕ) → rising 0 U l ≡ true
    → Ready U b (record { form = f; pages = l; cursor = fresh })
fresh_ready f U b l r = record { rises = r; placed = tt; behind = behind_fresh U l r b }

reader_ready : (v U b : ℕ) (l : List ℕ) → rising 0 U l ≡ true → Ready U b (reader v U l)
unfolding reader
reader_ready v U b l r = fresh_ready (form_of v U (length l)) U b l r

pub readers_ready : (v U b : ℕ) (ls : List (List ℕ)) → Rise U ls → AllReady U b (readers_of v U ls)
unfolding readers_of
readers_ready v U b [] r = tt
readers_ready v U b (l ∷ ls) r = (reader_ready v U b l r.0, readers_ready v U b ls r.1)

pub readers_pages : (v U : ℕ) (ls : List (List ℕ)) → pages_of (readers_of v U ls) ≡ ls
unfolding reader readers_of pages_of
readers_pages v U [] = refl
readers_pages v U (l ∷ ls) = ap (λ (r : List (List ℕ)). l ∷ r) (readers_pages v U ls)

pub readers_words : (v U : ℕ) (ls : List (List ℕ)) → words_of U (readers_of v U ls) ≡ words_in v U ls
unfolding reader readers_of words_of words_in
readers_words v U [] = refl
readers_words v U (l ∷ ls) = ap (λ (n : ℕ). upper_words (form_of v U (length l)) U l + n) (readers_words v U ls)

pub common_from_lem : (v U : ℕ) (ls : List (List ℕ)) (b r : ℕ)
    → common_from v U ls b r ≡ rounds_to U (fresh_lead v U ls) (fresh_others v U ls) b r
unfolding common_from rounds_to fresh_lead fresh_others reader
common_from_lem v U ls b r = refl

seek_past : (f : Form) (U : ℕ) (xs : List ℕ) (b : ℕ) → U ≤ b → seek f U xs fresh b ≡ gone xs 0
unfolding seek move
seek_past f U xs b h = rw (le-leb U b h, or-true (eqb (length xs) 0))

-- from U on there is one seek, with no looks
pub past_all : (v U : ℕ) (ls : List (List ℕ)) (b n : ℕ) → U ≤ b
    → common_from v U ls b (suc n) ≡ record { seeks = 1; looks = 0; listed = [] }
unfolding common_from rounds reader seek_by counted nothing gone
past_all v U ls b n h =
    let m : ℕ = length (lead_pages ls) in
    let f : Form = form_of v U m in
    let e : m + 1 ≡ suc m = omega arith in
    let s = seek_past f U (lead_pages ls) b h in
    let g : (seek f U (lead_pages ls) fresh b).found ≡ none m = ap (λ (x : Sought). x.found) s in
    let l : (seek f U (lead_pages ls) fresh b).looks ≡ 0 = ap (λ (x : Sought). x.looks) s in
    rw (e, rounds, g, rounds) (ap (λ (k : ℕ). counted 1 k [] nothing) l)

-- ---- the rule on the lists ls, from a bound on until r pages are listed

module _ (v U : ℕ) (ls : List (List ℕ)) (some : 0 < length ls) (r : Rise U ls) where
  picked : Pick ls (lead_pages ls) (other_pages ls)
  picked = lead_picked ls some

  pub lead_ready : (b : ℕ) → Ready U b (fresh_lead v U ls)
  unfolding fresh_lead
  lead_ready b = reader_ready v U b (lead_pages ls) (pick_rise U picked r).0

  pub others_ready : (b : ℕ) → AllReady U b (fresh_others v U ls)
  unfolding fresh_others
  others_ready b = readers_ready v U b (other_pages ls) (pick_rise U picked r).1

  -- the pages rise below U
  pub common_rises : rising 0 U (common_pages ls) ≡ true
  common_rises =
      rw (← pick_common U ls (lead_pages ls) (other_pages ls) some picked r)
      (shared_rising (other_pages ls) 0 U (lead_pages ls) (pick_rise U picked r).0)

  module _ (b n : ℕ) where
    tallied : Tallied U b n (fresh_lead v U ls) (fresh_others v U ls) (reached_by U (fresh_lead v U ls ∷ fresh_others v U ls))
        (common_from v U ls b n)
    tallied = rw (common_from_lem v U ls b n)
        (rounds_tallied U (fresh_lead v U ls) (fresh_others v U ls) b (lead_ready b) (others_ready b) n)

    -- what the lead shares with the others is what all lists share
    pub lead_shares : shared_from b (fresh_lead v U ls) (fresh_others v U ls) ≡ at_least b (common_pages ls)
    unfolding fresh_lead fresh_others reader
    lead_shares =
        rw (readers_pages v U (other_pages ls)) (shared_from_lem (other_pages ls) b (lead_pages ls))
        ∙ ap (at_least b) (pick_common U ls (lead_pages ls) (other_pages ls) some picked r)

    pub from_listed : (common_from v U ls b n).listed ≡ take n (at_least b (common_pages ls))
    from_listed = tallied.listed ∙ ap (take n) lead_shares

    -- at most k * m + 1 for every list's length m, so for the shortest
    pub from_seeks : (j : ℕ) → j < length ls → (common_from v U ls b n).seeks ≤ length ls * length (get_or ls j []) + 1
    unfolding fresh_lead fresh_others reader
    from_seeks j h =
        let k : 1 + length (fresh_others v U ls) ≡ length ls =
        ap (λ (n : ℕ). 1 + n) (sym (length_pages (fresh_others v U ls)) ∙ ap length (readers_pages v U (other_pages ls)))
        ∙ pick_length picked in
        let m : left_in b (fresh_lead v U ls) ≤ length (get_or ls j []) =
        le_trans (from_le b (lead_pages ls)) (unfold lead_pages in (lead_leads ls some).least j h) in
        omega (arith, rw k at tallied.seeks, mul-le-mul_left (length ls) m)

    fresh_words : words_of U (fresh_lead v U ls ∷ fresh_others v U ls) ≡ words_in v U ls
    unfolding fresh_lead fresh_others readers_of
    fresh_words = readers_words v U (lead_pages ls ∷ other_pages ls) ∙ pick_words v U picked

    -- a list's words count as often as it is named
    pub from_looks : (common_from v U ls b n).looks ≤ (common_from v U ls b n).seeks + words_in v U ls
    from_looks = omega (arith, fresh_words, tallied.looks)

  -- ---- common pages

  -- no more pages are shared than the lead has
  pub common_few : length (common_pages ls) ≤ length (lead_pages ls)
  common_few =
      rw (← pick_common U ls (lead_pages ls) (other_pages ls) some picked r) (shared_le (other_pages ls) (lead_pages ls))

  pub common_listed : (common v U ls).listed ≡ common_pages ls
  unfolding common
  common_listed =
      from_listed 0 (length (lead_pages ls) + 1)
      ∙ rw (from_zero (common_pages ls))
      (take_all (length (lead_pages ls) + 1) (common_pages ls) (omega (arith, common_few)))

  pub common_seeks : (j : ℕ) → j < length ls → (common v U ls).seeks ≤ length ls * length (get_or ls j []) + 1
  unfolding common
  common_seeks = from_seeks 0 (length (lead_pages ls) + 1)

  pub common_looks : (common v U ls).looks ≤ (common v U ls).seeks + words_in v U ls
  unfolding common
  common_looks = from_looks 0 (length (lead_pages ls) + 1)
