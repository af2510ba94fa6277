-- Laws of a list's refusal: each number from what its test found, and what the first five leave. They are said once, for a
-- list of the versions 1 to `last` in an index of version v; a list alone and one in a term are cases.
use mathlib.Core.Bool.{true, false, cond, not, ◌&&◌}
use mathlib.Core.Path.{◌≡◌, refl, ◌∙◌}
use mathlib.Core.List.{List}
use Prim.Native.Nat.{ℕ, ◌≤◌, ◌<◌}
use borrow.Author.Tests.{le-ltb, lt-ltb, eq-eqb, ne_eqb, ltb-false, not-false}
use lib.Dec.{ltb, eqb, lit<}
use lib.ListN.{length, get_or}
use Rattle.rules.specs.Verdict.{Verdict}
use Rattle.rules.specs.Verdict.{Accepted, Version, Limit, Layout, Runs}
use Rattle.rules.specs.Refusal.{and_then}
use Rattle.rules.specs.Limits.{limit, version, map_version, list_header, up_to}
use Rattle.rules.specs.List.{Form, two_runs, bitmap, form_of, form_version, form_size}
use Rattle.rules.specs.ReadList.{list_u, list_n, form_at, read_list, read_map, decode, is_block, refusal_in, list_refusal}
use Rattle.rules.specs.ReadList.{part_refusal}
use Rattle.laws.proofs.RefusalLaws.{test_passed, equal_passed}
use Rattle.laws.specs.Blocks.{Headed, head_tests}
use Rattle.laws.proofs.HeadLaws.{head_next, head_then, head_passed, up_to_known}
use Rattle.listlaws.specs.Sound.{FramedAs, Framed}

-- ---- forms

-- an index of version 1 has no bitmaps
pub form_first : (U n : ℕ) → form_of version U n ≡ two_runs
unfolding form_of
form_first U n = refl

pub version_known : (f : Form) → up_to map_version (form_version f) ≡ true
version_known two_runs = up_to_known map_version version (lit< tt) (lit< tt)
version_known bitmap = up_to_known map_version map_version (lit< tt) (lit< tt)

-- the version of a block tells its form
pub version_form : (f : Form) (s : List ℕ) → get_or s 4 0 ≡ form_version f → form_at s ≡ f
unfolding form_at
version_form two_runs s e = rw e
version_form bitmap s e = rw e

pub framed_form : (f : Form) (s : List ℕ) → FramedAs f s → form_at s ≡ f
framed_form f s p = version_form f s p.version_is

pub decode_runs : (s : List ℕ) → form_at s ≡ two_runs → decode s ≡ read_list s (list_u s) (list_n s)
unfolding decode
decode_runs s e = rw e

pub decode_map : (s : List ℕ) → form_at s ≡ bitmap → decode s ≡ read_map s (list_u s)
unfolding decode
decode_map s e = rw e

-- ---- each refusal

module _ (last v : ℕ) (s : List ℕ) where
  abbrev form : Form
  form = form_of v (list_u s) (list_n s)

  -- the tests behind the length and the limit
  abbrev last_test : Verdict
  last_test = cond (not (is_block form s (list_u s) (decode s))) Runs Accepted

  abbrev sized_test : Verdict
  sized_test = cond (not (eqb (length s) (form_size form (list_u s) (list_n s)))) Layout last_test

  abbrev formed_test : Verdict
  formed_test = cond (not (eqb (get_or s 4 0) (form_version form))) Version sized_test

  abbrev left : Verdict
  left = cond (ltb (list_u s) (list_n s)) Layout formed_test

  -- the tests behind the first three
  abbrev pub tests : Verdict
  tests = cond (ltb limit (list_u s)) Limit left

  -- the first three tests, and then the others
  pub list_then : refusal_in last v s ≡ and_then (head_tests list_header last s Accepted) tests
  unfolding refusal_in
  list_then = head_then list_header last s tests

  module _ (headed : Headed list_header last s) where
    after_head : refusal_in last v s ≡ tests
    unfolding refusal_in
    after_head = head_next list_header last s tests headed

    pub refuse_limit : limit < list_u s → refusal_in last v s ≡ Limit
    refuse_limit h = after_head ∙ rw (lt-ltb limit (list_u s) h)

    module _ (within : list_u s ≤ limit) where
      after_limit : refusal_in last v s ≡ left
      after_limit = after_head ∙ rw (le-ltb limit (list_u s) within)

      pub refuse_many : list_u s < list_n s → refusal_in last v s ≡ Layout
      refuse_many h = after_limit ∙ rw (lt-ltb (list_u s) (list_n s) h)

      module _ (below : list_n s ≤ list_u s) where
        after_many : refusal_in last v s ≡ formed_test
        after_many = after_limit ∙ rw (le-ltb (list_u s) (list_n s) below)

        pub refuse_form : (f : Form) → form_of v (list_u s) (list_n s) ≡ f → (get_or s 4 0 ≡ form_version f → ⊥)
            → refusal_in last v s ≡ Version
        refuse_form f e h = after_many ∙ rw (e, ne_eqb (get_or s 4 0) (form_version f) h)

        pub refuse_size : (f : Form) → form_of v (list_u s) (list_n s) ≡ f → get_or s 4 0 ≡ form_version f
            → (length s ≡ form_size f (list_u s) (list_n s) → ⊥) → refusal_in last v s ≡ Layout
        refuse_size f e k h =
            after_many
            ∙ rw (e, eq-eqb (get_or s 4 0) (form_version f) k, ne_eqb (length s) (form_size f (list_u s) (list_n s)) h)

  -- ---- what the first five leave

  module _ (f : Form) (e : form_of v (list_u s) (list_n s) ≡ f) (known : up_to last (get_or s 4 0) ≡ true) where
    pub framed_refusal : FramedAs f s
        → refusal_in last v s ≡ cond (not (is_block f s (list_u s) (decode s))) Runs Accepted
    framed_refusal p =
        after_many (record { header = p.header; states = p.length_stated; known = known }) p.within p.below
        ∙ rw (
          e,
          eq-eqb (get_or s 4 0) (form_version f) p.version_is,
          eq-eqb (length s) (form_size f (list_u s) (list_n s)) p.length_is,
        )

    pub framed_accepted : FramedAs f s → is_block f s (list_u s) (decode s) ≡ true → refusal_in last v s ≡ Accepted
    framed_accepted p b = framed_refusal p ∙ rw b

    pub framed_refused : FramedAs f s → is_block f s (list_u s) (decode s) ≡ false → refusal_in last v s ≡ Runs
    framed_refused p b = framed_refusal p ∙ rw b

  pub accepted_framed : refusal_in last v s ≡ Accepted
      → FramedAs (form_of v (list_u s) (list_n s)) s
      × (is_block (form_of v (list_u s) (list_n s)) s (list_u s) (decode s) ≡ true)
  unfolding refusal_in
  accepted_framed e =
      let U : ℕ = list_u s in
      let n : ℕ = list_n s in
      let a = head_passed list_header last s tests e in
      let d = test_passed (ltb limit U) Limit left (lit< tt) a.1 in
      let g = test_passed (ltb U n) Layout formed_test (lit< tt) d.1 in
      let k = test_passed (not (eqb (get_or s 4 0) (form_version form))) Version sized_test (lit< tt) g.1 in
      let h = test_passed (not (eqb (length s) (form_size form U n))) Layout last_test (lit< tt) k.1 in
      let i = test_passed (not (is_block form s U (decode s))) Runs Accepted (lit< tt) h.1 in (
        record {
          header = a.0.header;
          length_stated = a.0.states;
          version_is = equal_passed (get_or s 4 0) (form_version form) k.0;
          within = ltb-false limit U d.0;
          below = ltb-false U n g.0;
          length_is = equal_passed (length s) (form_size form U n) h.0;
        },
        not-false (is_block form s U (decode s)) i.0,
      )

-- ---- a list alone

pub alone_accepted : (s : List ℕ) → Framed s → is_block two_runs s (list_u s) (decode s) ≡ true → list_refusal s ≡ Accepted
unfolding list_refusal
alone_accepted s p b =
    framed_accepted version version s two_runs (form_first (list_u s) (list_n s))
    (rw p.version_is (up_to_known version version (lit< tt) (lit< tt))) p b

pub alone_framed : (s : List ℕ) → list_refusal s ≡ Accepted
    → Framed s × (is_block two_runs s (list_u s) (decode s) ≡ true)
unfolding list_refusal
alone_framed s e = rw (form_first (list_u s) (list_n s)) at (accepted_framed version version s e)

-- ---- a list in a term

pub part_accepted : (v : ℕ) (s : List ℕ) (f : Form) → form_of v (list_u s) (list_n s) ≡ f → FramedAs f s
    → is_block f s (list_u s) (decode s) ≡ true → part_refusal v s ≡ Accepted
unfolding part_refusal
part_accepted v s f e p b = framed_accepted map_version v s f e (rw p.version_is (version_known f)) p b

pub part_framed : (v : ℕ) (s : List ℕ) → part_refusal v s ≡ Accepted
    → FramedAs (form_of v (list_u s) (list_n s)) s
    × (is_block (form_of v (list_u s) (list_n s)) s (list_u s) (decode s) ≡ true)
unfolding part_refusal
part_framed v s e = accepted_framed map_version v s e

-- the form that its place asks for is the one that its version tells
pub part_form : (v : ℕ) (s : List ℕ) → part_refusal v s ≡ Accepted → form_at s ≡ form_of v (list_u s) (list_n s)
part_form v s e = framed_form (form_of v (list_u s) (list_n s)) s (part_framed v s e).0

-- one in two runs is accepted alone, and the other way round where no bitmap may stand
pub part_alone : (v : ℕ) (s : List ℕ) → part_refusal v s ≡ Accepted → form_of v (list_u s) (list_n s) ≡ two_runs
    → list_refusal s ≡ Accepted
part_alone v s e g =
    let p = rw g at (part_framed v s e) in
    alone_accepted s p.0 p.1

pub alone_part : (s : List ℕ) → list_refusal s ≡ Accepted → part_refusal version s ≡ Accepted
alone_part s e =
    let p = alone_framed s e in
    part_accepted version s two_runs (form_first (list_u s) (list_n s)) p.0 p.1
