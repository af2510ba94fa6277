-- What a test tells: `Accepted`, or the refusal that it found [01 Numbers of refusal]. In the code it is a
-- `Result<(), Refusal>`; each name stands for the whole value.
--
--   verdict r   what a result tells, its value aside
use Rattle.std.specs.Prelude.{Result, Ok, Err}
use Rattle.rules.specs.declared.Refusal.{Refusal}
use Rattle.rules.specs.declared.Refusal.TheVariants as Named

abbrev pub Verdict : Type 0
Verdict = Result (Unit {0}) Refusal

abbrev pub Accepted : Verdict
Accepted = Ok tt

abbrev pub Short : Verdict
Short = Err Named.Short

abbrev pub Length : Verdict
Length = Err Named.Length

abbrev pub Version : Verdict
Version = Err Named.Version

abbrev pub Limit : Verdict
Limit = Err Named.Limit

abbrev pub Layout : Verdict
Layout = Err Named.Layout

abbrev pub Runs : Verdict
Runs = Err Named.Runs

abbrev pub Parts : Verdict
Parts = Err Named.Parts

abbrev pub Question : Verdict
Question = Err Named.Question

abbrev pub Room : Verdict
Room = Err Named.Room

abbrev pub Lists : Verdict
Lists = Err Named.Lists

abbrev pub verdict : {A : Type 0} → Result A Refusal → Verdict
verdict (Ok _) = Accepted
verdict (Err r) = Err r
