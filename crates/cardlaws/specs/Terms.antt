-- The terms of an index as they are checked.
--
--   word_refusal v N b  the refusal of the bytes b as the term block of a word whose pages are below N, in an index of
--                      version v
--   word_inside v N s   the same of the block at the front of s, where s is what remains of its index
--   body_refusal v T N s  the refusal of what follows an index's header: N or T over its limit, and then the T terms s
use Rattle.std.specs.Prelude.{cond, not, ◌||◌, List, ℕ, ltb, eqb}
use Rattle.rules.specs.Verdict.{Verdict}
use Rattle.rules.specs.Verdict.{Accepted, Limit, Parts}
use Rattle.rules.specs.Refusal.{and_then}
use Rattle.rules.specs.Limits.{limit, term_limit, term_header}
use Rattle.rules.specs.ReadList.{list_u}
use Rattle.rules.specs.Parts.{inside}
use Rattle.rules.specs.ReadTerm.{pages_of, term_refusal}
use Rattle.rules.specs.Index.{terms_refusal}

abbrev pub word_refusal : ℕ → ℕ → List ℕ → Verdict
word_refusal v N b = and_then (term_refusal v b) (cond (not (eqb (list_u (pages_of b)) N)) Parts Accepted)

abbrev pub word_inside : ℕ → ℕ → List ℕ → Verdict
word_inside v N s = inside term_header (word_refusal v N) s

abbrev pub body_refusal : ℕ → ℕ → ℕ → List ℕ → Verdict
body_refusal v T N s = cond (ltb limit N || ltb term_limit T) Limit (terms_refusal v T N s)
