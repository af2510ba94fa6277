-- What the program prints for two files [01 Sample cards: "The program reads"].
--
--   file_limit, answer_room   bytes of a file, numbers of answers
--   decimal f n             n in decimal digits, at most f + 1 of them
--   line a                  an answer on a line
--   refused_line r           `refused N`, or nothing where nothing was refused
--   numbers_of f qs          the whole four-byte numbers of the bytes qs, at most f
--   printed s qs            the program's text for the card file s and the question file qs
use Rattle.std.specs.Prelude.{true, false, cond, ◌&&◌, ◌||◌, List, [], ◌∷◌, ◌++◌, ℕ, zero, suc, ◌+◌, ◌/◌, ◌%◌, ltb, length, drop}
use Rattle.rules.specs.Verdict.{Verdict}
use Rattle.rules.specs.Verdict.{Question, Room}
use Rattle.rules.specs.Refusal.{number, accepted}
use Rattle.rules.specs.Bytes.{be_at}
use Rattle.rules.specs.Index.{index_refusal}
use Rattle.rules.specs.Ask.{Replied, reply}

abbrev pub file_limit : ℕ
file_limit = 32768

abbrev pub answer_room : ℕ
answer_room = 8192

unfoldable pub decimal : ℕ → ℕ → List ℕ
decimal zero n = (48 + n % 10) ∷ []
decimal (suc f) n = elim (ltb n 10) [ true ↦ (48 + n) ∷ [] | false ↦ decimal f (n / 10) ++ ((48 + n % 10) ∷ []) ]

-- the ten digits of a number of four bytes
unfoldable pub digits : ℕ → List ℕ
digits n = decimal 9 n

-- one space between, and the line's end
unfoldable pub line : List ℕ → List ℕ
line [] = 10 ∷ []
line (n ∷ []) = digits n ++ (10 ∷ [])
line (n ∷ (m ∷ ns)) = digits n ++ (32 ∷ line (m ∷ ns))

unfoldable pub lines : List (List ℕ) → List ℕ
lines [] = []
lines (a ∷ rest) = line a ++ lines rest

-- `refused `
unfoldable pub refused_word : List ℕ
refused_word = 114 ∷ (101 ∷ (102 ∷ (117 ∷ (115 ∷ (101 ∷ (100 ∷ (32 ∷ [])))))))

unfoldable pub refused_line : Verdict → List ℕ
refused_line r = cond (accepted r) [] (refused_word ++ line (number r ∷ []))

unfoldable pub numbers_of : ℕ → List ℕ → List ℕ
numbers_of zero qs = []
numbers_of (suc f) qs = elim (ltb (length qs) 4) [ true ↦ [] | false ↦ be_at 4 qs 0 ∷ numbers_of f (drop 4 qs) ]

unfoldable pub printed_reply : Replied → List ℕ
printed_reply r = lines r.answers ++ refused_line r.refusal

unfoldable pub printed : List ℕ → List ℕ → List ℕ
printed s qs =
    cond (ltb file_limit (length s) || ltb file_limit (length qs)) (refused_line Room)
    (cond (accepted (index_refusal s) && ltb 0 (length qs % 4)) (refused_line Question)
    (printed_reply (reply s (numbers_of (length qs) qs) answer_room)))
