-- A record that lies whole in the file is what `recordAt` gives.
use Rattle.std.proofs.Common.{◌≡◌, ℕ, ◌+◌, ◌-◌, ◌<◌, ◌≤◌, List, length, take, drop, Some, None, Ok, Option, sym, ap, ◌∙◌, arith, length-drop, length-take, le-ltb}
use borrow.Author.Tests.{lt-leb}
use Rattle.orders.specs.declared.row.Row.{Row}
use Rattle.orders.specs.declared.refusal.Cause.TheVariants.{UnknownKind}
use Rattle.request_file.specs.declared.position.Position.TheVariants.{Before, Ended}
use Rattle.request_file.specs.Records.{row_in}
use Rattle.request_file.specs.Reading.{refusal, length_at, framed, record_at, onward}

-- the bytes from one place of the file to another
abbrev between : List ℕ → ℕ → ℕ → List ℕ
between file start end = take (end - start) (drop start file)

module _ (file : List ℕ) (o n : ℕ) (fits : o + 2 + n ≤ length file) (is : n ≡ length_at file o) where
  lies : (row : Option Row) → row_in (between file (o + 2) (o + 2 + n)) ≡ row → record_at file o ≡ framed o (between file (o + 2) (o + 2 + n)) row
  lies row holds =
      let same : o + 2 + n - (o + 2) ≡ length_at file o = omega arith in
      let starts : o < length file = omega arith in
      let counts : o + 2 ≤ length file = omega arith in
      let ends : o + 2 + length_at file o ≤ length file = omega arith in
      rw (lt-leb (length file) o starts, le-ltb (length file) (o + 2) counts, le-ltb (length file) (o + 2 + length_at file o) ends, ← same, holds)

  -- so it is where the bytes are a record
  pub record_lies : (bs : List ℕ) (row : Row) → bs ≡ between file (o + 2) (o + 2 + n) → row_in (between file (o + 2) (o + 2 + n)) ≡ Some row →
      (Some (Ok (record { offset = o; bytes = bs; row = row })) ≡ record_at file o) × (Before (o + 2 + n) ≡ onward (record_at file o))
  record_lies bs row are holds =
      let whole : length (between file (o + 2) (o + 2 + n)) ≡ n = simp (length-take, length-drop) (omega arith) in (
        ap (λ b. Some (Ok (record { offset = o; bytes = b; row = row }))) are ∙ sym (lies (Some row) holds),
        ap (λ m. Before (o + 2 + m)) (sym whole) ∙ ap onward (sym (lies (Some row) holds)),
      )

  -- and so where they are none
  pub none_lies : row_in (between file (o + 2) (o + 2 + n)) ≡ None → (refusal o UnknownKind ≡ record_at file o) × (Ended ≡ onward (record_at file o))
  none_lies holds = (sym (lies None holds), ap onward (sym (lies None holds)))
