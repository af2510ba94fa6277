-- Pairs found page by page, and how they come to be in the room.
use mathlib.Core.Bool.{cond}
use mathlib.Core.Path.{◌≡◌, refl, sym, ap, ◌∙◌}
use mathlib.Core.List.{List, [], ◌∷◌, ◌++◌, append-nil, append_assoc}
use Prim.Native.Nat.{ℕ, zero, suc, ◌+◌, ◌-◌, ◌*◌, ◌^◌, ◌≤◌, ◌<◌}
use native.Mathlib.Omega.{arith}
use borrow.Author.Tests.{lt-ltb}
use lib.Dec.{ltb}
use lib.ListN.{length, set, length-append}
use Rattle.rules.specs.Common.{Tally, counted}
use Rattle.rules.specs.Plain.{InPhrase, starts, with_starts}
use Rattle.rules.specs.Write.{laid}
use Rattle.querylaws.specs.Lists.{number_of}
use Rattle.walklaws.specs.Cursors.{spent_mark}
use Rattle.querylaws.specs.declared.Query.{Query}
use Rattle.querylaws.specs.declared.Turn.{Turn}
use Rattle.querylaws.specs.declared.Listed.{Listed}
use Rattle.querylaws.specs.Queries.{new_query, seeks_of, looks_of, Turned}
use Rattle.querylaws.proofs.TurnLaws.{turned_page}
use Rattle.querylaws.proofs.ListingLaws.{rest_of, Partway, partway_start, partway_few, partway_step, partway_end}
use Rattle.querylaws.specs.Listings.{whole_in}
use Rattle.openlists.proofs.FewLaws.{whole_few}
use Rattle.wordlists.proofs.OpenLaws.{opened_listed}
use Rattle.questions.proofs.WroteLaws.{laid_first}
use Rattle.trial.specs.Tries.{pair_of, Paired}
use Rattle.triallaws.specs.Asked.{phrase_at, found_in, new_words, Asked, Ahead}
use Rattle.triallaws.proofs.PageLaws.{ahead_new}

-- ---- page by page

module _ (ws : List InPhrase) where
  with_more : (ps qs : List ℕ) → with_starts ws (ps ++ qs) ≡ with_starts ws ps ++ with_starts ws qs
  unfolding with_starts pair_of
  with_more [] qs = refl
  with_more (p ∷ ps) qs =
      ap (λ (l : List ℕ). pair_of p (starts ws p) ++ l) (with_more ps qs)
      ∙ sym (append_assoc (pair_of p (starts ws p)) (with_starts ws ps) (with_starts ws qs))

  with_one : (ps : List ℕ) (p : ℕ) → with_starts ws (ps ++ (p ∷ [])) ≡ with_starts ws ps ++ pair_of p (starts ws p)
  unfolding with_starts pair_of
  with_one ps p =
      with_more ps (p ∷ []) ∙ ap (λ (l : List ℕ). with_starts ws ps ++ l) (append-nil (pair_of p (starts ws p)))

  pair_few : (p n : ℕ) → length (pair_of p n) ≤ 2
  unfolding pair_of
  pair_few p zero = omega arith
  pair_few p (suc n) = rw (lt-ltb 0 (suc n) (omega arith)) (omega arith)

  with_few : (ps : List ℕ) → length (with_starts ws ps) ≤ 2 * length ps
  unfolding with_starts pair_of
  with_few [] = omega arith
  with_few (p ∷ ps) =
      let f : length (cond (ltb 0 (starts ws p)) (p ∷ (starts ws p ∷ [])) []) ≤ 2 = pair_few p (starts ws p) in
      rw length-append (omega (arith, f, with_few ps))

-- ---- all common pages

module _ (s ts : List ℕ) (lead : ℕ) (pg ct ps : List ℕ) (a : Asked s ts lead pg ct ps) (ds : List ℕ) where
  whole_found : with_starts (phrase_at s ts ds) (whole_in s pg (length ts)).listed ≡ found_in s ts ds
  unfolding found_in
  whole_found = ap (with_starts (phrase_at s ts ds)) (opened_listed s ts pg a.pages)

  -- two numbers for each page of the lead are enough
  pub found_few : (length (found_in s ts ds) ≤ 2 * number_of pg 0 7) × (number_of pg 0 7 ≤ 16777216)
  found_few =
      let w = whole_few s pg (length ts) a.pages.lists in
      (rw (← whole_found) (omega (arith, with_few (phrase_at s ts ds) (whole_in s pg (length ts)).listed, w.0)), w.1)

-- ---- the loop over the common pages

-- what is laid covers the first number
pub laid_zero : (x first : List ℕ) → laid (0 ∷ x) (set first 0 0) ≡ laid (0 ∷ x) first
unfolding laid
laid_zero x [] = refl
laid_zero x (y ∷ first) = refl

module _ (s ts : List ℕ) (lead : ℕ) (pg ct ps room : List ℕ) (a : Asked s ts lead pg ct ps) (ds : List ℕ) where
  abbrev ws : List InPhrase
  ws = phrase_at s ts ds

  -- the pages of `seen` are gone through: their pairs are found, and laid if all fit
  pub record Going (q : Query) (words : List ℕ) (b found : ℕ) (now : List ℕ) : Type 0 where
    pub number : ℕ
    pub seen : List ℕ
    pub partway : Partway s pg (length ts) q b number seen
    pub ahead : Ahead s ts ct ps words b
    pub found_is : found ≡ length (with_starts ws seen)
    pub same : length now ≡ length room
    pub laid_so : length (found_in s ts ds) < length room → now ≡ laid (0 ∷ with_starts ws seen) room

  pub going_start : (first : List ℕ) → room ≡ set first 0 0 → 0 < length first
      → Going new_query new_words 0 0 room
  unfolding with_starts
  going_start first e h = record {
    number = 0;
    seen = [];
    partway = partway_start s pg (length ts) a.pages.lists;
    ahead = ahead_new s ts lead pg ct ps a;
    found_is = refl;
    same = refl;
    laid_so = λ l. rw e (laid_first first 0 h ∙ sym (laid_zero [] first));
  }

  module _ (q : Query) (words : List ℕ) (b found : ℕ) (now : List ℕ) (g : Going q words b found now) where
    pub going_few : found < 2 ^ 26
    going_few =
        omega (
          arith,
          g.found_is,
          with_few ws g.seen,
          g.partway.sized,
          partway_few s pg (length ts) q b
              g.number g.seen g.partway,
        )

    module _ (t : Turn) (u : Turned s pg (length ts) q b t) where
      pub going_end : t.mark ≡ spent_mark → (found ≡ length (found_in s ts ds))
          × (length (found_in s ts ds) < length room → now ≡ laid (0 ∷ found_in s ts ds) room)
      going_end h =
          let r : Listed = record { found = g.number; seeks = seeks_of t.q; looks = looks_of t.q } in
          let e = (partway_end s pg (length ts) q b g.number g.seen g.partway t u h r (refl, refl, refl)).0 in
          let f : with_starts ws g.seen ≡ found_in s ts ds =
          ap (with_starts ws) (sym e) ∙ whole_found s ts lead pg ct ps a ds in
          (g.found_is ∙ ap length f, λ l. g.laid_so l ∙ ap (λ (x : List ℕ). laid (0 ∷ x) room) f)

      module _ (h : t.mark ≡ spent_mark → ⊥) (n : ℕ) (words' : List ℕ) (is : n ≡ starts ws (t.mark - 1))
          (ahead' : Ahead s ts ct ps words' (t.mark - 1 + 1)) where
        abbrev next_way : Partway s pg (length ts) t.q t.mark (g.number + 1) (g.seen ++ (t.mark - 1) ∷ [])
        next_way = partway_step s pg (length ts) q b g.number g.seen g.partway t u h

        more : with_starts ws (g.seen ++ (t.mark - 1) ∷ []) ≡ with_starts ws g.seen ++ pair_of (t.mark - 1) n
        more =
            with_one ws g.seen (t.mark - 1)
            ∙ ap (λ (x : ℕ). with_starts ws g.seen ++ pair_of (t.mark - 1) x) (sym is)

        within : length (with_starts ws g.seen ++ pair_of (t.mark - 1) n) ≤ length (found_in s ts ds)
        unfolding counted
        within =
            let rest : List ℕ =
            (rest_of s pg (length ts) t.q t.mark (suc next_way.more)).listed in
            let e : (g.seen ++ (t.mark - 1) ∷ []) ++ rest ≡ (whole_in s pg (length ts)).listed =
            ap (λ (x : Tally). x.listed) next_way.same in
            let f =
            sym (with_more ws (g.seen ++ (t.mark - 1) ∷ []) rest) ∙ ap (with_starts ws) e
            ∙ whole_found s ts lead pg ct ps a ds in
            let l = length-append (with_starts ws (g.seen ++ (t.mark - 1) ∷ [])) (with_starts ws rest) in
            omega (arith, ap length f, l, ap length more)

        pub going_on : (r : ℕ) (now' : List ℕ) → Paired (with_starts ws g.seen) now (t.mark - 1) n r now'
            → Going t.q words' t.mark r now'
        going_on r now' p =
            let m = (turned_page s pg (length ts) q b g.partway.running.apt t u h).2 in
            let e : t.mark - 1 + 1 ≡ t.mark = omega (arith, m) in
            record {
              number = g.number + 1;
              seen = g.seen ++ (t.mark - 1) ∷ [];
              partway = next_way;
              ahead = rw e at ahead';
              found_is = p.found ∙ ap length (sym more);
              same = p.same ∙ g.same;
              laid_so =
                  λ l. p.laid room (g.laid_so l) (omega (arith, within, l))
                  ∙ ap (λ (x : List ℕ). laid (0 ∷ x) room) (sym more);
            }
