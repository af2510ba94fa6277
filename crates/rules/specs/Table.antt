-- Document 01's samples S1 to S12 and further rows, as one table [01 Sample cards].
--
--   s1, s2, s8, s9   the bytes of S1, S2, S8 and S9
--   s12              the card of S12
--   torque_bolt       a card of two words, the second two behind the first
--   s256, map_term    the block of all numbers below 256, and terms of bitmaps [02 f]
--   samples          the table; that every row of it holds is the theorem of proofs/SamplesHold.antt
use Rattle.std.specs.Prelude.{List, [], ◌∷◌, ◌++◌, ℕ, zero, suc, ◌+◌, set, take, replicate}
use Rattle.rules.specs.Verdict.{Accepted, Short, Length, Version, Limit, Layout, Runs}
use Rattle.rules.specs.Verdict.{Parts, Question, Room, Lists}
use Rattle.rules.specs.Bytes.{be, sized}
use Rattle.rules.specs.List.{two_runs, bitmap}
use Rattle.rules.specs.Term.{Word, term_block}
use Rattle.rules.specs.Index.{card}
use Rattle.rules.specs.Seek.{none, page}
use Rattle.rules.specs.Samples.{Step, Row, listed, not_list, not_index, sought, tallied, indexed, written, asked}
use Rattle.rules.specs.Samples.{termed, not_term, begun, streamed, screened, shown}

-- k numbers from x on, d apart
unfoldable pub stepped : ℕ → ℕ → ℕ → List ℕ
stepped zero x d = []
stepped (suc k) x d = x ∷ stepped k (x + d) d

unfoldable pub s1 : List ℕ
s1 = be 29 0x0000001D_01_0000002C_00000008_000000000000DE73_00000000000209CD

unfoldable pub s1_list : List ℕ
s1_list = 3 ∷ (4 ∷ (7 ∷ (13 ∷ (14 ∷ (15 ∷ (21 ∷ (43 ∷ [])))))))

unfoldable pub s2 : List ℕ
s2 = be 13 0x0000000D_01_00000005_00000000

-- nine words of 0101.. and one of 24 bits of them
unfoldable pub s8 : List ℕ
s8 =
    be 17 0x00000061_01_0000012C_0000012C_00000200
    ++ (replicate 72 0x55 ++ be 8 0x0000000000555555)

unfoldable pub s9 : List ℕ
s9 =
    be 16 0x0000005F_01_00000003_0001_00000054_01
    ++ (be 29 0x0000001D_01_00000003_00000001_0000000000000001_0000000000000001
    ++ (be 29 0x0000001D_01_00000002_00000001_0000000000000001_0000000000000001
    ++ be 21 0x00000015_01_00000003_00000002_0000000000000009))

unfoldable pub s9_word : Word
s9_word = record { pages = 1 ∷ []; counts = 2 ∷ []; positions = 0 ∷ (2 ∷ []) }

-- a word at position 0 of each of its k pages
unfoldable pub at_front : List ℕ → ℕ → Word
at_front pages k = record { pages = pages; counts = replicate k 1; positions = replicate k 0 }

unfoldable pub s12 : List ℕ
s12 = card 1 44 (at_front s1_list 8 ∷ (at_front (4 ∷ (15 ∷ [])) 2 ∷ []))

-- "torque the bolt": the word between is dropped [02 b]
unfoldable pub torque_bolt : List ℕ
torque_bolt = card 1 1 (at_front (0 ∷ []) 1 ∷ (record { pages = 0 ∷ []; counts = 1 ∷ []; positions = 2 ∷ [] } ∷ []))

-- the block of U = 256 with all of its numbers
unfoldable pub s256 : List ℕ
s256 = be 17 0x00000051_01_00000100_00000100_00000200 ++ replicate 64 0x55

-- a term of a bitmap, by its header and one number, and its bits; its counts and its positions are alike
unfoldable pub map_term : ℕ → List ℕ → List ℕ → List ℕ
map_term front bits list = sized (1 ∷ (be 17 front ++ (bits ++ (list ++ list))))

-- a word on one page, at one position
abbrev pub posting : ℕ → ℕ → Word
posting x p = record { pages = x ∷ []; counts = 1 ∷ []; positions = p ∷ [] }

-- a step that finds a page with its rank, and one that finds none of so many
abbrev pub finds : ℕ → ℕ → ℕ → ℕ → Step
finds b x i k = record { bound = b; found = page x i; looks = k }

abbrev pub misses : ℕ → ℕ → ℕ → Step
misses b n k = record { bound = b; found = none n; looks = k }

unfoldable pub samples : List Row
samples =
    -- S1 to S4
    listed s1 44 s1_list
    ∷ (listed s2 5 []
    ∷ (listed (be 21 0x00000015_01_00000001_00000001_0000000000000001) 1 (0 ∷ [])
    ∷ (listed (be 21 0x00000015_01_00000003_00000003_0000000000000015) 3 (0 ∷ (1 ∷ (2 ∷ [])))
    -- S5 to S7
    ∷ (sought two_runs 44 s1_list (finds 16 21 6 1 ∷ (finds 43 43 7 1 ∷ []))
    ∷ (sought two_runs 44 s1_list (finds 43 43 7 1 ∷ (finds 5 43 7 0 ∷ (misses 44 8 0 ∷ (misses 0 8 0 ∷ []))))
    ∷ (sought two_runs 44 s1_list (misses 44 8 0 ∷ [])
    -- S8
    ∷ (listed s8 300 (stepped 300 0 1)
    ∷ (sought two_runs 300 (stepped 300 0 1) (finds 299 299 299 2 ∷ [])
    ∷ (sought two_runs 300 (stepped 300 0 1) (finds 255 255 255 8 ∷ [])
    -- S9 to S11
    ∷ (indexed s9 1 3 (s9_word ∷ [])
    ∷ (asked s9 (3 ∷ (1 ∷ (0 ∷ []))) 40 Accepted 1 (3 ∷ (2 ∷ (2 ∷ (1 ∷ []))))
    ∷ (asked s9 (4 ∷ (4 ∷ (0 ∷ (0 ∷ (0 ∷ (1 ∷ [])))))) 40 Accepted 1 (0 ∷ [])
    ∷ (asked s9 (4 ∷ (2 ∷ (0 ∷ (0 ∷ [])))) 40 Accepted 1 (2 ∷ (1 ∷ (2 ∷ [])))
    -- S12
    ∷ (asked s12 (3 ∷ (2 ∷ (0 ∷ (1 ∷ [])))) 40 Accepted 1 (4 ∷ (5 ∷ (5 ∷ (4 ∷ (15 ∷ [])))))
    -- the program on S9
    ∷ (shown s9 (be 36 0x00000003_00000001_00000000_00000004_00000004_00000000_00000000_00000000_00000001) (51 ∷ (32 ∷ (50 ∷ (32 ∷ (50 ∷ (32 ∷ (49 ∷ (10 ∷ (48 ∷ (10 ∷ []))))))))))
    -- w = 1 where U - 1 would give 0; a last pointer at the run's end; both ends of U
    ∷ (listed (be 29 0x0000001D_01_00000004_00000002_0000000000000003_0000000000000005) 4 (1 ∷ (3 ∷ []))
    ∷ (listed s256 256 (stepped 256 0 1)
    ∷ (sought two_runs 256 (stepped 256 0 1) (finds 255 255 255 8 ∷ (misses 256 256 0 ∷ []))
    ∷ (listed (be 13 0x0000000D_01_00000000_00000000) 0 []
    ∷ (listed (be 13 0x0000000D_01_01000000_00000000) 16777216 []
    ∷ (listed (be 29 0x0000001D_01_01000000_00000001_0000000000FFFFFF_0000000000000001) 16777216 (16777215 ∷ [])
    ∷ (listed (be 29 0x0000001D_01_01000000_00000002_00003FFFFF800000_0000000000000005) 16777216 (0 ∷ (16777215 ∷ []))
    -- edges
    ∷ (not_list (be 13 0x0000000D_01_01000001_00000000) Limit
    ∷ (not_index (be 11 0x0000000B_01_00000000_1001) Limit
    ∷ (not_index (be 11 0x0000000B_01_00000000_0001) Short
    ∷ (not_list (take 12 s2) Short
    ∷ (not_list (set s1 3 30) Length
    ∷ (not_list (set s1 4 2) Version
    ∷ (not_list (set s1 12 45) Layout
    ∷ (not_list (set s1 12 0) Layout
    ∷ (not_list (set s1 26 0x0A) Runs
    ∷ (not_list (set s1 13 0x80) Runs
    ∷ (not_list (set (set s8 15 1) 16 0xFF) Runs
    ∷ (asked s9 (3 ∷ (9 ∷ replicate 9 0)) 40 Question 0 []
    ∷ (asked s9 (3 ∷ (1 ∷ (1 ∷ []))) 40 Question 0 []
    -- kinds 1 and 2 on S12, both ends; none [02 a] of a word and of an empty one; room one short; parts that disagree;
    -- the writer's refusals
    ∷ (asked s12 (1 ∷ (2 ∷ (0 ∷ (7 ∷ (1 ∷ (2 ∷ (0 ∷ (8 ∷ [])))))))) 40 Accepted 2 (1 ∷ (43 ∷ (0 ∷ [])))
    ∷ (asked s12 (2 ∷ (2 ∷ (0 ∷ (16 ∷ (2 ∷ (2 ∷ (0 ∷ (44 ∷ [])))))))) 40 Accepted 2 (2 ∷ (21 ∷ (6 ∷ (1 ∷ (8 ∷ [])))))
    ∷ (asked s12 (2 ∷ (2 ∷ (1 ∷ (4294967295 ∷ [])))) 2 Accepted 1 (1 ∷ (2 ∷ []))
    ∷ (asked s12 (2 ∷ (2 ∷ (1 ∷ (16 ∷ [])))) 1 Room 0 []
    ∷ (asked (card 1 5 (at_front [] 0 ∷ [])) (2 ∷ (2 ∷ (0 ∷ (0 ∷ [])))) 40 Accepted 1 (1 ∷ (0 ∷ []))
    ∷ (asked s9 (1 ∷ (2 ∷ (0 ∷ (0 ∷ (3 ∷ (1 ∷ (0 ∷ []))))))) 5 Room 1 (1 ∷ (1 ∷ []))
    -- phrases with dropped words [02 b], both ends of an offset; no pair, half a pair, a first offset that is not 0,
    -- offsets that do not rise, a term that is not there
    ∷ (asked torque_bolt (4 ∷ (4 ∷ (0 ∷ (0 ∷ (1 ∷ (2 ∷ [])))))) 40 Accepted 1 (2 ∷ (0 ∷ (1 ∷ [])))
    ∷ (asked torque_bolt (4 ∷ (4 ∷ (0 ∷ (0 ∷ (1 ∷ (1 ∷ [])))))) 40 Accepted 1 (0 ∷ [])
    ∷ (asked s9 (4 ∷ (4 ∷ (0 ∷ (0 ∷ (0 ∷ (2 ∷ [])))))) 40 Accepted 1 (2 ∷ (1 ∷ (1 ∷ [])))
    ∷ (asked s9 (4 ∷ (4 ∷ (0 ∷ (0 ∷ (0 ∷ (255 ∷ [])))))) 40 Accepted 1 (0 ∷ [])
    ∷ (asked s9 (4 ∷ (4 ∷ (0 ∷ (0 ∷ (0 ∷ (256 ∷ [])))))) 40 Question 0 []
    ∷ (asked s9 (4 ∷ (0 ∷ [])) 40 Question 0 []
    ∷ (asked s9 (4 ∷ (3 ∷ (0 ∷ (0 ∷ (0 ∷ []))))) 40 Question 0 []
    ∷ (asked s9 (4 ∷ (2 ∷ (0 ∷ (1 ∷ [])))) 40 Question 0 []
    ∷ (asked s9 (4 ∷ (4 ∷ (0 ∷ (0 ∷ (0 ∷ (0 ∷ [])))))) 40 Question 0 []
    ∷ (asked s9 (4 ∷ (4 ∷ (0 ∷ (0 ∷ (1 ∷ (1 ∷ [])))))) 40 Question 0 []
    ∷ (not_index (set s9 8 4) Parts
    ∷ (written 44 s1_list 29 Accepted
    ∷ (written 44 s1_list 28 Room
    ∷ (written 44 (4 ∷ (4 ∷ [])) 40 Lists
    ∷ (written 16777217 [] 40 Limit
    -- words in runs [02 c]: S9 in one run and S12 cut behind each page, with an empty run; a word of 300 pages, whose
    -- block has pointers, in two; an empty word; the announcement's refusals; a page that does not rise across the seam,
    -- more than was announced, a position at U, totals that fall short
    ∷ (streamed 1 3 1 2 3 (s9_word ∷ []) 84 Accepted
    ∷ (streamed 1 44 2 2 2 (posting 4 0 ∷ (at_front [] 0 ∷ (posting 15 0 ∷ []))) 90 Accepted
    ∷ (streamed 1 300 300 300 300 (at_front (stepped 7 0 1) 7 ∷ (at_front (stepped 293 7 1) 293 ∷ [])) 300 Accepted
    ∷ (streamed 1 5 0 0 0 [] 44 Accepted
    ∷ (begun 1 16777217 0 0 0 100 Limit
    ∷ (begun 1 3 1 1 16777217 100 Limit
    ∷ (begun 1 0 1 1 1 100 Lists
    ∷ (begun 1 3 2 1 1 100 Lists
    ∷ (begun 1 3 1 2 1 100 Lists
    ∷ (begun 1 3 0 1 1 100 Lists
    ∷ (begun 1 3 0 0 1 100 Lists
    ∷ (begun 1 3 1 2 3 84 Accepted
    ∷ (begun 1 3 1 2 3 83 Room
    ∷ (streamed 1 3 1 2 3 (s9_word ∷ []) 83 Lists
    ∷ (streamed 1 44 2 2 2 (posting 15 0 ∷ (posting 15 0 ∷ [])) 90 Lists
    ∷ (streamed 1 44 1 1 2 (posting 4 0 ∷ (posting 15 0 ∷ [])) 90 Lists
    ∷ (streamed 1 44 2 2 2 (posting 4 0 ∷ (posting 15 1 ∷ [])) 90 Lists
    ∷ (streamed 1 44 2 2 3 (posting 4 0 ∷ (posting 15 0 ∷ [])) 90 Lists
    -- screens of S12 [02 e]: one page each, the second just full and an empty one behind it; all pages, and just two;
    -- from U on, both ends; r and words that are 8; rooms one short; a card that is refused
    ∷ (screened s12 0 1 (0 ∷ (1 ∷ [])) 40 3 Accepted (4 ∷ []) 5 (2 ∷ (2 ∷ []))
    ∷ (screened s12 5 1 (0 ∷ (1 ∷ [])) 1 2 Accepted (15 ∷ []) 16 (2 ∷ (2 ∷ []))
    ∷ (screened s12 16 1 (0 ∷ (1 ∷ [])) 0 2 Accepted [] 0 (1 ∷ (1 ∷ []))
    ∷ (screened s12 0 64 (0 ∷ (1 ∷ [])) 2 2 Accepted (4 ∷ (15 ∷ [])) 0 (5 ∷ (5 ∷ []))
    ∷ (screened s12 4 2 (0 ∷ (1 ∷ [])) 2 2 Accepted (4 ∷ (15 ∷ [])) 16 (4 ∷ (4 ∷ []))
    ∷ (screened s12 44 64 (0 ∷ []) 0 2 Accepted [] 0 (1 ∷ (0 ∷ []))
    ∷ (screened s12 4294967295 64 (0 ∷ []) 0 2 Accepted [] 0 (1 ∷ (0 ∷ []))
    ∷ (screened s12 43 1 (0 ∷ []) 1 2 Accepted (43 ∷ []) 44 (1 ∷ (1 ∷ []))
    ∷ (screened s12 0 0 (0 ∷ []) 40 2 Question [] 0 []
    ∷ (screened s12 0 65 (0 ∷ []) 40 2 Question [] 0 []
    ∷ (screened s12 0 64 [] 40 2 Question [] 0 []
    ∷ (screened s12 0 64 (replicate 9 0) 40 2 Question [] 0 []
    ∷ (screened s12 0 64 (0 ∷ (2 ∷ [])) 40 2 Question [] 0 []
    ∷ (screened s12 0 64 (0 ∷ (1 ∷ [])) 1 2 Room [] 0 []
    ∷ (screened s12 0 64 (0 ∷ (1 ∷ [])) 2 1 Room [] 0 []
    ∷ (screened (set s9 8 4) 0 0 [] 0 0 Parts [] 0 []
    -- the pointer by b div 2^w; no jump back behind the cursor; back to the lead after a larger page
    ∷ (sought two_runs 1024 (stepped 300 0 3) (finds 600 600 200 2 ∷ (finds 897 897 299 5 ∷ (misses 898 300 2 ∷ [])))
    ∷ (sought two_runs 300 (stepped 300 0 1) (finds 290 290 290 2 ∷ (finds 295 295 295 1 ∷ []))
    ∷ (tallied 1 20 ((1 ∷ (9 ∷ [])) ∷ ((2 ∷ (9 ∷ (10 ∷ []))) ∷ ((1 ∷ (9 ∷ (12 ∷ []))) ∷ []))) 6 6 (9 ∷ [])
    -- dense words as bitmaps [02 f]: S4's list and S8's, with a number at 256 and one that is U; equality keeps two runs;
    -- version 1 has no bitmap
    ∷ (termed (be 68 0x00000044_01_00000015_02_00000003_00000003_0000000000000007_00000015_01_00000003_00000003_0000000000000015_00000015_01_00000003_00000003_0000000000000015) 2 3 (at_front (stepped 3 0 1) 3)
    ∷ (termed (map_term 0x00000039_02_0000012C_0000012C_00000100 (replicate 32 0xFF ++ be 8 0x00000FFFFFFFFFFF) s8) 2 300 (at_front (stepped 300 0 1) 300)
    ∷ (termed (map_term 0x00000031_02_00000100_00000100_00000100 (replicate 32 0xFF) s256) 2 256 (at_front (stepped 256 0 1) 256)
    ∷ (termed (term_block 1 8 (at_front (2 ∷ (5 ∷ [])) 2)) 2 8 (at_front (2 ∷ (5 ∷ [])) 2)
    ∷ (termed (term_block 1 7 (at_front (0 ∷ (6 ∷ [])) 2)) 2 7 (at_front (0 ∷ (6 ∷ [])) 2)
    ∷ (termed (term_block 1 5 (at_front [] 0)) 2 5 (at_front [] 0)
    ∷ (not_term 2 (term_block 1 3 (at_front (stepped 3 0 1) 3)) Version
    ∷ (not_term 1 (term_block 2 3 (at_front (stepped 3 0 1) 3)) Version
    -- an unknown version; a bitmap for counts, and one in version 1 whose length is wrong too; one with n above U, and U
    -- over its limit; a list's version that no edition has, before U over its limit; wrong numbers, spare bits, ones
    ∷ (not_term 0 (term_block 1 5 (at_front [] 0)) Version
    ∷ (not_term 3 (term_block 1 5 (at_front [] 0)) Version
    ∷ (not_term 2 (set (term_block 2 3 (at_front (stepped 3 0 1) 3)) 30 2) Version
    ∷ (not_term 1 (set (term_block 2 3 (at_front (stepped 3 0 1) 3)) 17 2) Version
    ∷ (not_term 1 (set (term_block 2 3 (at_front (stepped 3 0 1) 3)) 17 4) Layout
    ∷ (not_term 1 (set (term_block 2 3 (at_front (stepped 3 0 1) 3)) 10 2) Limit
    ∷ (not_term 2 (set (set (term_block 2 3 (at_front (stepped 3 0 1) 3)) 10 2) 9 3) Version
    ∷ (not_term 2 (set (term_block 2 300 (at_front (stepped 300 0 1) 300)) 21 1) Runs
    ∷ (not_term 2 (set (term_block 2 3 (at_front (stepped 3 0 1) 3)) 25 0x0F) Runs
    ∷ (not_term 2 (set (term_block 2 3 (at_front (stepped 3 0 1) 3)) 25 0x03) Runs
    -- seeks on a bitmap: in b's word and beyond it, one that stays, none up to the last word; both ends
    ∷ (sought bitmap 300 (stepped 100 0 3) (finds 1 3 1 1 ∷ (finds 190 192 64 2 ∷ (finds 5 192 64 0 ∷ (misses 298 100 1 ∷ []))))
    ∷ (sought bitmap 300 (0 ∷ []) (finds 0 0 0 1 ∷ (misses 1 1 5 ∷ (misses 0 1 0 ∷ [])))
    ∷ (sought bitmap 300 (stepped 300 0 1) (finds 255 255 255 1 ∷ (finds 299 299 299 1 ∷ (misses 300 300 0 ∷ [])))
    -- a mix of forms; an index of version 2
    ∷ (tallied 2 300 (stepped 100 0 3 ∷ ((0 ∷ (100 ∷ (198 ∷ (299 ∷ [])))) ∷ [])) 8 8 (0 ∷ (198 ∷ []))
    ∷ (indexed (set s9 4 2) 2 3 (s9_word ∷ [])
    ∷ (not_index (be 11 0x0000000B_03_00000000_0000) Version
    ∷ (asked (card 2 44 (at_front (stepped 20 2 2) 20 ∷ (at_front (4 ∷ (15 ∷ (40 ∷ []))) 3 ∷ []))) (1 ∷ (2 ∷ (0 ∷ (19 ∷ (2 ∷ (2 ∷ (0 ∷ (5 ∷ (3 ∷ (2 ∷ (0 ∷ (1 ∷ [])))))))))))) 40 Accepted 3 (1 ∷ (40 ∷ (2 ∷ (6 ∷ (2 ∷ (4 ∷ (7 ∷ (7 ∷ (4 ∷ (40 ∷ []))))))))))
    -- words in runs for an index of version 2: a bitmap with a number, cut in two; an unknown version before N over
    ∷ (streamed 2 300 300 300 300 (at_front (stepped 7 0 1) 7 ∷ (at_front (stepped 293 7 1) 293 ∷ [])) 300 Accepted
    ∷ (begun 3 16777217 0 0 0 100 Version
    ∷ []))))))))))))))))))))))))))))))))))))))))))))))))))))))))))))))))))))))))))))))))))))))))))))))))))))))))))))))))))))))))
