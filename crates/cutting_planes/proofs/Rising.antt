-- Positive terms in rising order of variables, by recursion.
use Rattle.std.specs.Prelude.{◌≡◌, ℕ, ◌+◌, ◌<◌, ◌≤◌, ◌^◌, [], ◌∷◌, ◌++◌, All, AllPairs}
use Rattle.std.proofs.Common.{arith}
use Rattle.std.proofs.lemmas.List.Elements.{All-nil, All-cons, All-head, All-tail}
use Rattle.std.proofs.lemmas.List.Kept.{AllPairs-cons}
use Rattle.scut_base.specs.Literal.{Literal}
use Rattle.pb_lin.specs.Constraint.{IsNormal, total}
use Rattle.pb_lin.proofs.Merges.{rising_head, rising_tail}
use Rattle.cutting_planes.proofs.Terms.{Terms}

-- the variables rise from above n, and the coefficients are positive
abbrev pub Above : ℕ → Terms → Type 0
Above n [] = Unit {0}
Above n (t ∷ ts) = (n < t.0.var) × (0 < t.1) × Above t.0.var ts

abbrev Rising : Terms → Type 0
Rising ts = AllPairs (λ s t. s.0.var < t.0.var) ts

above_lower : (m n : ℕ) (ts : Terms) → m ≤ n → Above n ts → Above m ts
above_lower m n [] h above = tt
above_lower m n (t ∷ ts) h above = let first : n < t.0.var = above.0 in (omega arith, above.1, above.2)

above_vars : (n : ℕ) (ts : Terms) → Above n ts → All (λ t. n < t.0.var) ts
above_vars n [] above = All-nil (λ t. n < t.0.var)
above_vars n (t ∷ ts) above = All-cons (λ u. n < u.0.var) t ts above.0 (above_vars n ts (above_lower n t.0.var ts (let first : n < t.0.var = above.0 in omega arith) above.2))

above_positive : (n : ℕ) (ts : Terms) → Above n ts → All (λ t. 0 < t.1) ts
above_positive n [] above = All-nil (λ t. 0 < t.1)
above_positive n (t ∷ ts) above = All-cons (λ t. 0 < t.1) t ts above.1 (above_positive t.0.var ts above.2)

above_rising : (n : ℕ) (ts : Terms) → Above n ts → Rising ts
above_rising n [] above = λ i j d h l. absurd (omega arith)
above_rising n (t ∷ ts) above = AllPairs-cons (λ s t. s.0.var < t.0.var) t ts (above_vars t.0.var ts above.2) (above_rising t.0.var ts above.2)

pub normal_from_above : (ts : Terms) (degree : ℕ) → Above 0 ts → total ts + degree ≤ 2 ^ 100 → IsNormal ts degree
normal_from_above ts degree above fits = record {
  merged = record { positive = above_positive 0 ts above; from_one = above_vars 0 ts above; rising = above_rising 0 ts above };
  small = fits;
}

above_from_parts : (n : ℕ) (ts : Terms) → All (λ t. 0 < t.1) ts → All (λ t. n < t.0.var) ts → Rising ts → Above n ts
above_from_parts n [] positive vars rising = tt
above_from_parts n (t ∷ ts) positive vars rising =
    (All-head (λ u. n < u.0.var) t ts vars, All-head (λ u. 0 < u.1) t ts positive, above_from_parts t.0.var ts (All-tail (λ u. 0 < u.1) t ts positive) (rising_head t ts rising) (rising_tail t ts rising))

pub above_from_normal : (ts : Terms) (degree : ℕ) → IsNormal ts degree → Above 0 ts
above_from_normal ts degree normal = above_from_parts 0 ts normal.merged.positive normal.merged.from_one normal.merged.rising

-- ---- after terms that stay

-- the next term's coefficient is positive
pub above_next : (n : ℕ) (ms : Terms) (s : Literal × ℕ) (ls : Terms) → Above n (ms ++ s ∷ ls) → 0 < s.1
above_next n [] s ls above = above.1
above_next n (m ∷ ms) s ls above = above_next m.0.var ms s ls above.2

-- without the next term
pub above_without : (n : ℕ) (ms : Terms) (s : Literal × ℕ) (ls : Terms) → Above n (ms ++ s ∷ ls) → Above n (ms ++ ls)
above_without n [] s ls above = above_lower n s.0.var ls (let first : n < s.0.var = above.0 in omega arith) above.2
above_without n (m ∷ ms) s ls above = (above.0, above.1, above_without m.0.var ms s ls above.2)

-- with another term of its variable
pub above_instead : (n : ℕ) (ms : Terms) (s u : Literal × ℕ) (ls : Terms) → u.0.var ≡ s.0.var → 0 < u.1 → Above n (ms ++ s ∷ ls) → Above n (ms ++ u ∷ ls)
above_instead n [] s u ls e h above =
    let first : n < s.0.var = above.0 in
    (omega arith, h, above_lower u.0.var s.0.var ls (omega arith) above.2)
above_instead n (m ∷ ms) s u ls e h above = (above.0, above.1, above_instead m.0.var ms s u ls e h above.2)

-- with a term of a lower variable before it
pub above_before : (n : ℕ) (ms : Terms) (s t : Literal × ℕ) (ls rs : Terms) → s.0.var < t.0.var → Above n (ms ++ s ∷ ls) → Above n (ms ++ t ∷ rs) → Above n (ms ++ s ∷ t ∷ rs)
above_before n [] s t ls rs h left right = (left.0, left.1, (h, right.1, right.2))
above_before n (m ∷ ms) s t ls rs h left right = (left.0, left.1, above_before m.0.var ms s t ls rs h left.2 right.2)
