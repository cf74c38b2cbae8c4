-- The lister's job (document 01, The lister): command bytes 10 size, 11 column, 00 end, hexadecimal; numbers little-endian.
use Rattle.std.specs.Prelude.{◌≡◌, Bool, true, cond, ◌&&◌, List, [], ◌++◌, ℕ, zero, suc, ◌+◌, ◌-◌, ◌*◌, ◌/◌, leb, ltb, eqb, length, get_or, take, drop}
use Rattle.laws.specs.Lists.{tabulate}

-- where column k begins, of 9 bytes each
abbrev pub column_place : ℕ → ℕ
column_place k = 5 + 9 * k

module _ (s : List ℕ) where
  -- 16 and 32 bits from byte i on; bytes beyond the end count as 0
  abbrev pub number16 : ℕ → ℕ
  number16 i = get_or s i 0 + 256 * get_or s (i + 1) 0

  abbrev pub number32 : ℕ → ℕ
  number32 i = number16 i + 65536 * number16 (i + 2)

  -- width and height in pixels, behind the command byte
  abbrev pub width : ℕ
  width = number16 1

  abbrev pub height : ℕ
  height = number16 3

  -- the size record is there: a command byte and two 16-bit numbers, at most 512 pixels each
  abbrev pub has_size : Bool
  has_size = leb 5 (length s) && eqb (get_or s 0 0) 0x10 && leb width 512 && leb height 512

  -- column k is there whole: a command byte, type and mul
  abbrev pub is_column : ℕ → Bool
  is_column k = leb (column_place k + 9) (length s) && eqb (get_or s (column_place k) 0) 0x11

  abbrev pub type_at : ℕ → ℕ
  type_at k = number32 (column_place k + 1)

  abbrev pub mul_at : ℕ → ℕ
  mul_at k = number32 (column_place k + 5)

  -- whole columns from column k on, at most n of them, counted on from k
  unfoldable pub count_from : ℕ → ℕ → ℕ
  count_from zero k = k
  count_from (suc n) k = cond (is_column k) (count_from n (k + 1)) k

  -- at most 4,096
  abbrev pub columns : ℕ
  columns = count_from 4096 0

  abbrev pub types : List ℕ
  types = tabulate type_at columns 0

  abbrev pub muls : List ℕ
  muls = tabulate mul_at columns 0

  -- where the job ends: behind the command byte that follows its columns
  abbrev pub job_end : ℕ
  job_end = column_place columns + 1

  -- the end is there; what follows is not read
  abbrev pub has_end : Bool
  has_end = leb job_end (length s) && eqb (get_or s (column_place columns) 0) 0

  -- a job: one 10, its columns, one 00, and nothing behind
  abbrev pub is_job : Bool
  is_job = has_size && has_end && eqb (length s) job_end

  -- What a job that begins with s needs is read record by record: a command byte, then the rest of its record. Of the size record:
  abbrev pub size_needs : ℕ
  size_needs = cond (eqb (length s) 0) 1 (cond (eqb (get_or s 0 0) 0x10) (5 - length s) 0)

  -- of column k, if there may be one, or of the end in its place
  abbrev pub column_needs : ℕ → ℕ
  column_needs k = cond (leb (length s) (column_place k)) 1 (cond (ltb k 4096 && eqb (get_or s (column_place k) 0) 0x11) (column_place k + 9 - length s) 0)

  -- how many bytes are asked for behind s, read so: none behind the end of a job, none behind a record or command that no job has there
  unfoldable pub needed : ℕ
  needed = cond (ltb (length s) 5) size_needs (cond has_size (column_needs ((length s - 5) / 9)) 0)

-- A job is read record by record, and nothing behind its end.

-- what is read behind s of the bytes u, by at most n reads of as many bytes as are needed
unfoldable pub read_by : ℕ → List ℕ → List ℕ → List ℕ
read_by zero s u = s
read_by (suc n) s u = cond (eqb (needed s) 0) s (read_by n (s ++ take (needed s) u) (drop (needed s) u))

-- what is read of the bytes u, each read being of one byte or more
abbrev pub read : List ℕ → List ℕ
read u = read_by 36870 [] u

-- s' is no job either, or has the same size, columns and end
pub record Same (s s' : List ℕ) : Type 0 where
  pub size_is : has_size s' ≡ has_size s
  pub width_is : has_size s ≡ true → width s' ≡ width s
  pub height_is : has_size s ≡ true → height s' ≡ height s
  pub ends_at : has_size s ≡ true → job_end s' ≡ job_end s
  pub end_is : has_size s ≡ true → has_end s' ≡ has_end s
  pub types_are : has_size s ≡ true → types s' ≡ types s
  pub muls_are : has_size s ≡ true → muls s' ≡ muls s
