-- The limits and the sizes that are fixed [01 Limits, Numbers of refusal].
--
--   limit        U and N at most
--   term_limit    T at most
--   phrase_limit  words in a question at most
--   offset_limit  the offset of a phrase's word at most [02 b]
--   screen_limit  pages of a screen at most [02 e]
--   version      of a term, and of a list in two runs
--   map_version   of a list that is a bitmap [02 f]
--   map_edition   the version of an index from which on dense pages are bitmaps [02 f]
--   last_edition  the versions of an index are 1 to this one [02 f]
--   up_to last v  whether v is one of the versions 1 to last
--   list_header, term_header, index_header  the bytes below which a block is too short
--   four_bytes    the first number that four bytes do not hold
use Rattle.std.specs.Prelude.{Bool, ◌&&◌, ℕ, ◌^◌, leb}

abbrev pub limit : ℕ
limit = 16777216

abbrev pub term_limit : ℕ
term_limit = 4096

abbrev pub phrase_limit : ℕ
phrase_limit = 8

abbrev pub offset_limit : ℕ
offset_limit = 255

abbrev pub screen_limit : ℕ
screen_limit = 64

abbrev pub version : ℕ
version = 1

abbrev pub map_version : ℕ
map_version = 2

abbrev pub map_edition : ℕ
map_edition = 2

abbrev pub last_edition : ℕ
last_edition = 2

unfoldable pub up_to : ℕ → ℕ → Bool
up_to last v = leb 1 v && leb v last

abbrev pub list_header : ℕ
list_header = 13

abbrev pub term_header : ℕ
term_header = 44

abbrev pub index_header : ℕ
index_header = 11

abbrev pub four_bytes : ℕ
four_bytes = 2 ^ 32
