-- One more request at the end of a tape. Assumes nothing.
use Rattle.std.proofs.Common.{◌≡◌, ℕ, ◌+◌, ◌-◌, [], ◌∷◌, ◌++◌, None, refl, ap}
use Rattle.orders.specs.declared.request.Request.{Request}
use Rattle.plain.specs.Rule.{Rule}
use Rattle.plain.specs.Book.{Book, Tape, fresh, from, after, reply}
use Rattle.plain.specs.Gate.{refused_by, AdmittedFrom}
use Rattle.plain.specs.Account.{record_from}
use Rattle.plain.specs.Held.{to_buy, unbought, held_from, held}

pub from_more : (rule : Rule) (b : Book) (t : Tape) (q : Request) → from rule b (t ++ (q ∷ [])) ≡ (reply rule (from rule b t) q).book
from_more rule b [] q = refl
from_more rule b (x ∷ t) q = from_more rule (reply rule b x).book t q

-- requests from the front of a tape that was admitted were admitted
pub admitted_front : (rule : Rule) (capacity : ℕ) (b : Book) (t u : Tape) → AdmittedFrom rule capacity b (t ++ u) → AdmittedFrom rule capacity b t
admitted_front rule capacity b [] u a = tt
admitted_front rule capacity b (q ∷ t) u a = (a.0, admitted_front rule capacity (reply rule b q).book t u a.1)

held_from_more : (rule : Rule) (b : Book) (h m : ℕ) (t : Tape) (q : Request) →
    held_from m h (record_from rule b (t ++ (q ∷ []))) ≡ (held_from m h (record_from rule b t) + to_buy m q) - unbought m q (reply rule (from rule b t) q).answer
held_from_more rule b h m [] q = refl
held_from_more rule b h m (x ∷ t) q = held_from_more rule (reply rule b x).book ((h + to_buy m x) - unbought m x (reply rule b x).answer) m t q

pub held_more : (rule : Rule) (m : ℕ) (t : Tape) (q : Request) →
    held rule m (t ++ (q ∷ [])) ≡ (held rule m t + to_buy m q) - unbought m q (reply rule (after rule t) q).answer
held_more rule m t q = held_from_more rule fresh 0 m t q

-- a request in the middle of such a tape was admitted where it stands
pub admitted_at : (rule : Rule) (capacity : ℕ) (b : Book) (t u : Tape) (q : Request) → AdmittedFrom rule capacity b (t ++ q ∷ u) → (n : ℕ) × (refused_by capacity (from rule b t) q n ≡ None)
admitted_at rule capacity b [] u q a = a.0
admitted_at rule capacity b (x ∷ t) u q a = admitted_at rule capacity (reply rule b x).book t u q a.1

-- the record of a tape, in two parts
pub record_append : (rule : Rule) (b : Book) (t u : Tape) → record_from rule b (t ++ u) ≡ record_from rule b t ++ record_from rule (from rule b t) u
record_append rule b [] u = refl
record_append rule b (q ∷ t) u = ap (λ ds. record { request = q; answer = (reply rule b q).answer; fills = (reply rule b q).fills } ∷ ds) (record_append rule (reply rule b q).book t u)
