-- Literals whose variables rise from each to the next.
use Rattle.std.proofs.Common.{◌≡◌, ℕ, ◌+◌, ◌<◌, ◌≤◌, List, length, get_or, map, arith}
use Rattle.std.specs.List.{AllPairs}
use Rattle.std.proofs.lemmas.List.{get_or-map, length-map}
use Rattle.std.proofs.lemmas.List.Kept.{AllPairs-from_increasing}
use Rattle.scut_base.specs.Literal.{Literal}

-- each variable up to a place is below the next
abbrev pub RiseUpTo : List Literal → ℕ → Type 0
RiseUpTo lits at = (k : ℕ) (d : Literal) → k + 1 < at → (get_or lits k d).var < (get_or lits (k + 1) d).var

pub rising_pairs : (lits : List Literal) (at : ℕ) → length lits ≤ at → RiseUpTo lits at →
    AllPairs (λ l m. l.var < m.var) lits
rising_pairs lits at past rise i j d below within =
    let vars = map (λ (l : Literal). l.var) lits in
    let size : length vars ≡ length lits = length-map lits (λ (l : Literal). l.var) in
    let var_at : (k : ℕ) → k < length lits → get_or vars k 0 ≡ (get_or lits k d).var =
    λ k short. get_or-map (λ (l : Literal). l.var) lits k d 0 short in
    let all = AllPairs-from_increasing vars
    (λ k short. let one = var_at k (omega arith) in let two = var_at (k + 1) (omega arith) in
    let step = rise k d (omega arith) in omega arith) i j 0 below (omega arith) in
    let one = var_at i (omega arith) in
    let two = var_at j within in
    omega arith
