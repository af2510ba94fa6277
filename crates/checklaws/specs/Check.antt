-- What the check of a list has tested, part by part, over the fields of the list's shape.
--
--   Tells r P          r is true where P holds and false where it does not
--   Judged r P Q       P holds of the value of r, and where there is none Q does not
--   Tail s at m        the run at byte `at` of s has only zeros from bit m on in the word of that bit
--   Clear s at m       its last word, where it has m bits, has only zeros from bit m on
--   Laid s g           s is bytes, and g the shape of bytes as long, with an element at least
--   Holds s g          what refusal 6 leaves, over the fields of g
--   passed s g p       the elements that the first p bits of the upper run hold
--   Climbed s g p i m c  the first p bits hold i elements, c says whether they climb, and m is the least that may follow
--   pair_of w x         the high part of x, 64 more, and its low part side by side: pairs are in order as numbers are
--   last_of w m         the pair of the element below m, 0 for none
--   bit_before s at i   the bit before bit i of the run at byte `at`, 0 for the first
--   Spaced s at p      no two ones are neighbours among the first p bits of that run
--   Pointed s g p i q  p bits with i ones are passed and with them each pointer that they decide, all below number q
--   Stands x b i k p   place p follows a zero of the word x at bit b of a run,
--                      with k zeros below it; i ones are below x
--   next_low s w l      where the lower run is read after one part more
--   Held s g i l       the lower run is read up to part i
--   Ready s g k i q x  k words with i ones are passed, q is the number of the next pointer, and x is the next word
--   At s g k m         k words are passed, and m says what is known of them
--   Read s g k i m     the i elements up to word k and in it are read, and m says what is known of them
--   Trimmed s g        g is the shape of s, and the spare bits are 0
use Rattle.std.specs.Prelude.{Bool, true, false, cond, Option, MatchOption, ◌≡◌, List, ℕ, zero, suc, ◌+◌, ◌-◌, ◌*◌, ◌/◌, ◌%◌, ◌^◌, ◌≤◌, ◌<◌, leb, length}
use Rattle.std.specs.Int.Count.{ones}
use Rattle.rules.specs.Bytes.{be_at, Bytes}
use Rattle.rules.specs.Runs.{bit, run_word, run_bit, field, words_for}
use Rattle.rules.specs.Counts.{ones_below}
use Rattle.rules.specs.List.{rising}
use Rattle.rules.specs.ReadList.{elements}
use Rattle.shape.specs.declared.Shape.{Shape}
use Rattle.listlaws.specs.Sound.{After, climbs, least}
use Rattle.checklaws.specs.declared.Low.{Low}
use Rattle.checklaws.specs.declared.Mid.{Mid}

abbrev pub Tells : Bool → Type 0 → Type 0
Tells r P = (r ≡ true → P) × (r ≡ false → P → ⊥)

abbrev pub Judged : {T : Type 0} → Option T → (T → Type 0) → Type 0 → Type 0
Judged r P Q = MatchOption r (Q → ⊥) P

abbrev pub Tail : List ℕ → ℕ → ℕ → Type 0
Tail s at m = (i : ℕ) → m ≤ i → i < 64 * (m / 64 + 1) → run_bit s at i ≡ 0

abbrev pub Clear : List ℕ → ℕ → ℕ → Type 0
Clear s at m = (i : ℕ) → m ≤ i → i < 64 * words_for m → run_bit s at i ≡ 0

pub record Laid (s : List ℕ) (g : Shape) : Type 0 where
  pub bytes : Bytes s
  pub some : 0 < g.n
  pub most : g.n ≤ g.bits
  pub few : g.bits ≤ 2 ^ 25
  pub narrow : g.w ≤ 24
  pub short : g.n * g.w ≤ 2 ^ 24
  pub zeros_are : g.bits ≡ g.n + g.u / 2 ^ g.w
  pub lower_at_lem : g.lower ≡ 13 + 4 * ((g.bits - g.n) / 256)
  pub upper_at_lem : g.upper ≡ g.lower + 8 * words_for (g.n * g.w)
  pub length_is : length s ≡ g.upper + 8 * words_for g.bits

abbrev pub passed : List ℕ → Shape → ℕ → List ℕ
passed s g p = elements s g.upper g.lower g.w p 0 0

pub record Holds (s : List ℕ) (g : Shape) : Type 0 where
  pub ones_are : ones_below s g.upper (64 * words_for g.bits) ≡ g.n
  pub upper_spare : Clear s g.upper g.bits
  pub lower_spare : Clear s g.lower (g.n * g.w)
  pub rises : rising 0 g.u (passed s g g.bits) ≡ true
  pub pointers_are : (q : ℕ) → 0 < q → 9 + 4 * q < g.lower
      → After (ones_below s g.upper) (256 * q) (be_at 4 s (9 + 4 * q))

pub record Climbed (s : List ℕ) (g : Shape) (p i m : ℕ) (c : Bool) : Type 0 where
  pub counted : ones_below s g.upper p ≡ i
  pub climb : climbs 0 (passed s g p) ≡ c
  pub least_is : least 0 (passed s g p) ≡ m

unfoldable pub pair_of : ℕ → ℕ → ℕ
pair_of w x = (x / 2 ^ w + 64) * 2 ^ 32 + x % 2 ^ w

unfoldable pub last_of : ℕ → ℕ → ℕ
last_of w zero = 0
last_of w (suc x) = pair_of w x

unfoldable pub bit_before : List ℕ → ℕ → ℕ → ℕ
bit_before s at zero = 0
bit_before s at (suc i) = run_bit s at i

abbrev pub Spaced : List ℕ → ℕ → ℕ → Type 0
Spaced s at p = (i : ℕ) → i < p → run_bit s at i ≡ 1 → bit_before s at i ≡ 1 → ⊥

pub record Pointed (s : List ℕ) (g : Shape) (p i q : ℕ) : Type 0 where
  pub first : 0 < q
  pub last : 9 + 4 * q ≤ g.lower
  pub ahead : 9 + 4 * q < g.lower → p < 256 * q + i
  pub behind : (j : ℕ) → 0 < j → j < q → After (ones_below s g.upper) (256 * j) (be_at 4 s (9 + 4 * j))

pub record Stands (x b i k p : ℕ) : Type 0 where
  pub above : b < p
  pub within : p ≤ b + 64
  pub zero_last : bit x (p - b - 1) ≡ 0
  pub counted : k + i + ones (x % 2 ^ (p - b)) ≡ p

unfoldable pub next_low : List ℕ → ℕ → Low → Low
next_low s w l =
    cond (leb w l.held) (record {
      part = l.left % 2 ^ w;
      left = l.left / 2 ^ w;
      held = l.held - w;
      at = l.at;
    }) (record {
      part = (be_at 8 s l.at * 2 ^ l.held + l.left) % 2 ^ w;
      left = be_at 8 s l.at / 2 ^ (w - l.held);
      held = l.held + 64 - w;
      at = l.at + 8;
    })

pub record Held (s : List ℕ) (g : Shape) (i : ℕ) (l : Low) : Type 0 where
  pub held_is : i * g.w + l.held ≡ 64 * words_for (i * g.w)
  pub left_is : l.left ≡ field s g.lower (i * g.w) l.held
  pub at_is : l.at ≡ g.lower + 8 * words_for (i * g.w)

pub record Ready (s : List ℕ) (g : Shape) (k i q x : ℕ) : Type 0 where
  pub laid : Laid s g
  pub few : i ≤ g.n
  pub counted : ones_below s g.upper (64 * k) ≡ i
  pub pointed : Pointed s g (64 * k) i q
  pub inside : k < words_for g.bits
  pub word_is : x ≡ run_word s g.upper k

pub record At (s : List ℕ) (g : Shape) (k : ℕ) (m : Mid) : Type 0 where
  pub few : m.i ≤ g.n
  pub bound : ℕ
  pub climbed : Climbed s g (64 * k) m.i bound true
  pub last_is : m.last ≡ last_of g.w bound
  pub pointed : Pointed s g (64 * k) m.i m.next
  pub held : Held s g m.i m.low

pub record Read (s : List ℕ) (g : Shape) (k i : ℕ) (m : Mid) : Type 0 where
  pub all : m.i ≡ i
  pub bound : ℕ
  pub climbed : Climbed s g (64 * (k + 1)) m.i bound true
  pub last_is : m.last ≡ last_of g.w bound
  pub held : Held s g m.i m.low

pub record Trimmed (s : List ℕ) (g : Shape) : Type 0 where
  pub laid : Laid s g
  pub upper_spare : Clear s g.upper g.bits
  pub lower_spare : Clear s g.lower (g.n * g.w)
