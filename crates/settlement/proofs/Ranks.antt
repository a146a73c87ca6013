-- The lines of the standing, by its places.
use Rattle.std.proofs.Common.{◌≡◌, ℕ, ◌+◌, List, [], ◌∷◌, ◌++◌, map, refl, ap, Option, Some}
use Rattle.ledger.specs.declared.standing.Standing.{Standing}
use Rattle.settlement.specs.declared.line.Line.{Line}
use Rattle.settlement.specs.Lines.{member_line, member_lines, place_line}

-- the lines of places, ranked on from a number
abbrev pub place_lines : ℕ → List (Option Standing) → List Line
place_lines rank [] = []
place_lines rank (p ∷ ps) = place_line rank p ++ place_lines (rank + 1) ps

pub held_lines : (rank : ℕ) (ss : List Standing) → place_lines rank (map Some ss) ≡ member_lines rank ss
held_lines rank [] = refl
held_lines rank (s ∷ ss) = ap (λ ls. member_line rank s ++ ls) (held_lines (rank + 1) ss)
