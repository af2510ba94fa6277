-- What an accepted announcement and a session that goes on tell [02 c].
--
--   Announced N P Q U  P pages below N and Q positions whose elements end at U: within the limits, and none for no page
--   Live s             session s goes on: what was announced is accepted, and no more is laid
use Rattle.std.specs.Prelude.{◌≡◌, ℕ, ◌≤◌}
use Rattle.rules.specs.Verdict.{Accepted}
use Rattle.rules.specs.declared.Stream.{Stream}
use Rattle.rules.specs.Limits.{limit}
use Rattle.rules.specs.Stream.{announce_refusal}

pub record Announced (N P Q U : ℕ) : Type 0 where
  pub within : N ≤ limit
  pub reach : U ≤ limit
  pub pages : P ≤ N
  pub counts : P ≤ Q
  pub positions : Q ≤ U
  pub none : P ≡ 0 → U ≡ 0

pub record Live (s : Stream) : Type 0 where
  pub marked : s.mark ≡ 1
  pub accepts : announce_refusal s.version s.n s.pages s.positions s.u ≡ Accepted
  pub announced : Announced s.n s.pages s.positions s.u
  pub laid_le : s.laid ≤ s.pages
  pub filled_le : s.filled ≤ s.positions
