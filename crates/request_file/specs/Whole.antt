-- The records that a reader hands out make up the file. Assumes nothing.
use Rattle.std.specs.Prelude.{◌≡◌, ℕ, zero, suc, ◌<◌, List, [], ◌∷◌, ◌++◌, take, drop, Some, None, Ok, Err}
use Rattle.request_file.specs.declared.position.Position.{Position}
use Rattle.request_file.specs.declared.position.Position.TheVariants.{Start, Before, Ended}
use Rattle.request_file.specs.Reading.{Found, Given, position_after, given}

-- the record that a call gave, if it gave one
abbrev pub record_of : Given → List Found
record_of None = []
record_of (Some (Err c)) = []
record_of (Some (Ok f)) = f ∷ []

-- the records that the first k calls gave, in their sequence
abbrev pub records : List ℕ → ℕ → List Found
records file zero = []
records file (suc k) = records file k ++ record_of (given file k)

-- the part of the file that a record takes up: the two length bytes at its offset, then its own bytes
abbrev pub part : List ℕ → Found → List ℕ
part file f = take 2 (drop f.offset file) ++ f.bytes

abbrev pub parts : List ℕ → List Found → List ℕ
parts file [] = []
parts file (f ∷ fs) = part file f ++ parts file fs

-- the file as far as a reader has come
abbrev pub up_to : List ℕ → Position → List ℕ
up_to file Start = []
up_to file (Before o) = take o file
up_to file Ended = file

-- none of the first k calls gave a refusal
abbrev pub IsNoRefusal : Given → Type 0
IsNoRefusal None = Unit {0}
IsNoRefusal (Some (Err c)) = ⊥
IsNoRefusal (Some (Ok f)) = Unit {0}

abbrev pub Unrefused : List ℕ → ℕ → Type 0
Unrefused file k = (j : ℕ) → j < k → IsNoRefusal (given file j)

-- as far as a reader has come without a refusal, the file is the version byte and then the parts of the records that it gave, end to end;
-- a reader that came to the end without one has so given the whole file
abbrev pub RecordsMakeUpTheFile : Type 0
RecordsMakeUpTheFile = (file : List ℕ) (k : ℕ) → Unrefused file (suc k) → up_to file (position_after file (suc k)) ≡ 1 ∷ parts file (records file (suc k))
