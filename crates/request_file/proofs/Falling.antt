-- Fewer bytes are left after each item that a reader gives.
use Rattle.std.proofs.Common.{◌≡◌, ℕ, ◌+◌, ◌-◌, ◌<◌, ◌≤◌, eqb, ltb, leb, List, length, get_or, IfSome, Some, None, Ok, Err, Option, Result, sym, ap, subst, arith, leb-false}
use Rattle.std.proofs.lemmas.Bool.{cond_both}
use Rattle.request_file.specs.declared.fault.Fault.{Fault}
use Rattle.request_file.specs.declared.reader.Located.{Located}
use Rattle.orders.specs.declared.row.Row.{Row}
use Rattle.request_file.specs.declared.position.Position.{Position}
use Rattle.request_file.specs.declared.position.Position.TheVariants.{Start, Before, Ended}
use Rattle.request_file.specs.Records.{row_in}
use Rattle.request_file.specs.Reading.{Given, length_at, bytes_at, framed, record_at, gives, onward, seen, bytes_left}

-- fewer than n are left after an item
abbrev pub Falls : List ℕ → ℕ → Given → Type 0
Falls file n None = Unit {0}
Falls file n (Some r) = bytes_left file (onward (Some r)) < n

framed_falls : (file : List ℕ) (o : ℕ) (row : Option Row) → o < length file → Falls file (length file + 1 - o) (framed o (bytes_at file o) row)
framed_falls file o None h = omega arith
framed_falls file o (Some row) h = omega arith

at_falls : (file : List ℕ) (o : ℕ) → Falls file (length file + 1 - o) (record_at file o)
at_falls file o =
    let P : Given → Type 0 = Falls file (length file + 1 - o) in
    cond_both (leb (length file) o) _ _ P (λ _. tt)
    (λ e. let h : o < length file = leb-false (length file) o e in
    cond_both (ltb (length file) (o + 2)) _ _ P (λ _. omega arith)
    (λ _. cond_both (ltb (length file) (o + 2 + length_at file o)) _ _ P (λ _. omega arith) (λ _. framed_falls file o (row_in (bytes_at file o)) h)))

more : (file : List ℕ) (m n : ℕ) (g : Given) → m ≤ n → Falls file m g → Falls file n g
more file m n None h f = tt
more file m n (Some r) h f = omega arith

pub falls : (file : List ℕ) (p : Position) → Falls file (bytes_left file p) (gives file p)
falls file Start =
    cond_both (eqb (get_or file 0 0) 1) _ _ (Falls file (length file + 1)) (λ _. more file (length file + 1 - 1) (length file + 1) (record_at file 1) (omega arith) (at_falls file 1)) (λ _. omega arith)
falls file (Before o) = at_falls file o
falls file Ended = tt

-- the same of what a call returned
pub item_falls : (r : Option (Result Located Fault)) (file file' : List ℕ) (p p' : Position) → file' ≡ file → seen r ≡ gives file p → p' ≡ onward (gives file p) →
    IfSome r (λ _. Unit {0} × Unit {0} × (bytes_left file' p' < bytes_left file p))
item_falls None file file' p p' same gave stands = tt
item_falls (Some (Ok l)) file file' p p' same gave stands =
    let left : bytes_left file' p' ≡ bytes_left file (onward (gives file p)) = cc in
    let f = subst (λ g. Falls file (bytes_left file p) g) (sym gave) (falls file p) in
    let e = ap (λ g. bytes_left file (onward g)) gave in
    (tt, tt, omega arith)
item_falls (Some (Err c)) file file' p p' same gave stands =
    let left : bytes_left file' p' ≡ bytes_left file (onward (gives file p)) = cc in
    let f = subst (λ g. Falls file (bytes_left file p) g) (sym gave) (falls file p) in
    let e = ap (λ g. bytes_left file (onward g)) gave in
    (tt, tt, omega arith)
