-- The records that a reader hands out make up the file.
use Rattle.std.proofs.Common.{◌≡◌, ℕ, zero, suc, ◌+◌, ◌≤◌, eqb, ltb, leb, List, [], ◌∷◌, ◌++◌, length, get_or, take, drop, Some, None, Ok, Err, Option, sym, refl, ap, ◌∙◌, append_assoc, append-nil, arith, length-drop, length-take, take_all, take-add, ltb-false, eqb-true, leb-true}
use Rattle.std.proofs.lemmas.Bool.{cond_both}
use Rattle.orders.specs.declared.row.Row.{Row}
use Rattle.request_file.specs.declared.position.Position.{Position}
use Rattle.request_file.specs.declared.position.Position.TheVariants.{Start, Before, Ended}
use Rattle.request_file.specs.Records.{row_in}
use Rattle.request_file.specs.Reading.{Found, Given, length_at, bytes_at, framed, record_at, gives, onward, position_after, given}
use Rattle.request_file.specs.Whole.{record_of, records, part, parts, up_to, IsNoRefusal, RecordsMakeUpTheFile}

-- a call that gives no refusal adds the part of what it gives
abbrev Adds : List ℕ → List ℕ → Given → Type 0
Adds file front g = IsNoRefusal g → up_to file (onward g) ≡ front ++ parts file (record_of g)

record_adds : (file : List ℕ) (o : ℕ) (row : Row) → o + 2 + length_at file o ≤ length file → Adds file (take o file) (framed o (bytes_at file o) (Some row))
record_adds file o row fits u =
    let whole : length (bytes_at file o) ≡ length_at file o = simp (length-take, length-drop) (omega arith) in
    ap (λ n. take (o + 2 + n) file) whole ∙ take-add (o + 2) (length_at file o) file ∙ ap (λ xs. xs ++ bytes_at file o) (take-add o 2 file) ∙
    append_assoc (take o file) (take 2 (drop o file)) (bytes_at file o) ∙
    ap (λ xs. take o file ++ xs) (sym (append-nil (take 2 (drop o file) ++ bytes_at file o)))

framed_adds : (file : List ℕ) (o : ℕ) (row : Option Row) → o + 2 + length_at file o ≤ length file → Adds file (take o file) (framed o (bytes_at file o) row)
framed_adds file o None fits u = absurd u
framed_adds file o (Some row) fits u = record_adds file o row fits u

at_adds : (file : List ℕ) (o : ℕ) → Adds file (take o file) (record_at file o)
at_adds file o =
    cond_both (leb (length file) o) _ _ (Adds file (take o file))
    (λ e u. sym (take_all o file (leb-true (length file) o e)) ∙ sym (append-nil (take o file)))
    (λ _. cond_both (ltb (length file) (o + 2)) _ _ (Adds file (take o file)) (λ _ u. absurd u)
    (λ _. cond_both (ltb (length file) (o + 2 + length_at file o)) _ _ (Adds file (take o file)) (λ _ u. absurd u)
    (λ e. framed_adds file o (row_in (bytes_at file o)) (ltb-false _ _ e))))

-- a file that begins with 1
begins : (file : List ℕ) → get_or file 0 0 ≡ 1 → take 1 file ≡ 1 ∷ []
begins [] e = let z : ◌≡◌ {A = ℕ} 0 1 = e in absurd (omega arith)
begins (x ∷ xs) e = ap (λ n. n ∷ []) e

start_adds : (file : List ℕ) → Adds file (1 ∷ []) (gives file Start)
start_adds file =
    cond_both (eqb (get_or file 0 0) 1) _ _ (Adds file (1 ∷ []))
    (λ e u. at_adds file 1 u ∙ ap (λ xs. xs ++ parts file (record_of (record_at file 1))) (begins file (eqb-true _ _ e)))
    (λ _ u. absurd u)

-- from where a reader stands
adds : (file : List ℕ) (p : Position) → (p ≡ Start → ⊥) → Adds file (up_to file p) (gives file p)
adds file Start n u = absurd (n refl)
adds file (Before o) n u = at_adds file o u
adds file Ended n u = sym (append-nil file)

-- it never comes back to the start
never_start : (g : Given) → onward g ≡ Start → ⊥
never_start None e = let z : ◌≡◌ {A = ℕ} 0 1 = cc in omega arith
never_start (Some (Err c)) e = let z : ◌≡◌ {A = ℕ} 0 1 = cc in omega arith
never_start (Some (Ok f)) e = let z : ◌≡◌ {A = ℕ} 0 1 = cc in omega arith

parts_more : (file : List ℕ) (fs gs : List Found) → parts file (fs ++ gs) ≡ parts file fs ++ parts file gs
parts_more file [] gs = refl
parts_more file (f ∷ fs) gs = ap (λ xs. part file f ++ xs) (parts_more file fs gs) ∙ sym (append_assoc (part file f) (parts file fs) (parts file gs))

pub make_up_the_file : RecordsMakeUpTheFile
make_up_the_file file zero u = start_adds file (u 0 (omega arith))
make_up_the_file file (suc k) u =
    adds file (position_after file (suc k)) (never_start (given file k)) (u (suc k) (omega arith)) ∙
    ap (λ xs. xs ++ parts file (record_of (given file (suc k)))) (make_up_the_file file k (λ j h. u j (omega arith))) ∙
    ap (λ xs. 1 ∷ xs) (sym (parts_more file (records file (suc k)) (record_of (given file (suc k)))))
