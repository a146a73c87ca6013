-- The lines of a listing, one record at a time.
use Rattle.std.proofs.Common.{◌≡◌, ℕ, ◌+◌, ◌<◌, List, [], ◌∷◌, ◌++◌, length, get_or, drop, sym, ap, ◌∙◌, append_assoc}
use Rattle.std.proofs.lemmas.List.{drop_more}
use Rattle.venue.specs.declared.step.Step.{Step}
use Rattle.listing.specs.declared.line.Line.{Line}
use Rattle.listing.specs.Lines.{Record, first_lines, steps_after, record_lines}

-- one more record
pub record_more : (all lines more : List Line) (rs : List Record) (i : ℕ) (r : Record) (ss ss' : List Step) →
    lines ++ record_lines (i + 1) (drop i rs) ss ≡ all → i < length rs → r ≡ get_or rs i r →
    more ≡ lines ++ first_lines (i + 1) r ss → ss' ≡ steps_after r ss →
    more ++ record_lines (i + 1 + 1) (drop (i + 1) rs) ss' ≡ all
record_more all lines more rs i r ss ss' inv h is grown left =
    let first : record_lines (i + 1) (drop i rs) ss ≡ first_lines (i + 1) r ss ++ record_lines (i + 1 + 1) (drop (i + 1) rs) (steps_after r ss) =
    ap (λ l. record_lines (i + 1) l ss) (drop_more rs i r h) ∙ ap (λ x. first_lines (i + 1) x ss ++ record_lines (i + 1 + 1) (drop (i + 1) rs) (steps_after x ss)) (sym is) in
    let regroup = append_assoc lines (first_lines (i + 1) r ss) (record_lines (i + 1 + 1) (drop (i + 1) rs) (steps_after r ss)) in
    cc

-- a line, and then more
pub push_then : (before pushed after more : List Line) (x : Line) → pushed ≡ before ++ x ∷ [] → after ≡ pushed ++ more → after ≡ before ++ x ∷ more
push_then before pushed after more x p q = q ∙ ap (λ l. l ++ more) p ∙ append_assoc before (x ∷ []) more
