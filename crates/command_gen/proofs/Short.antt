-- The text of a generated instance is short.
use Rattle.std.proofs.Common.{◌≡◌, ℕ, zero, suc, ◌+◌, ◌*◌, ◌<◌, ◌≤◌, ◌^◌, Bool, true, false, List, [], ◌∷◌, ◌++◌, length, map, arith}
use Rattle.std.specs.Prelude.{codes}
use Rattle.std.specs.Fmt.{decimal}
use Rattle.std.specs.List.{flat_map, range_with_len}
use Rattle.std.proofs.lemmas.Fmt.{length-decimal-le_succ}
use Rattle.std.proofs.lemmas.List.{length-append}
use Rattle.scut_base.specs.Literal.{Literal}
use Rattle.instance.specs.declared.objective.Soft.{Soft}
use Rattle.command_gen.specs.Draws.{beginning, draw, state_after}
use Rattle.command_gen.specs.Generated.{drawn_clause, drawn_item, drawn_objective, drawn_soft, generated, nth_clause, nth_objective}
use Rattle.command_gen.specs.Printed.{clause_text, hard_line, literal_text, mcnf_text, sign_text, soft_line, soft_lines, weight_text}
use Rattle.command_gen.proofs.Within.{draw_below}

-- texts of at most m bytes each, one after another
texts_short : {X : Type 0} (g : X → List ℕ) (f : ℕ → X) (m a n top : ℕ) → a + n ≤ top → ((k : ℕ) → a ≤ k → k < top → length (g (f k)) ≤ m) → length (flat_map g (map f (range_with_len a n))) ≤ m * n
texts_short g f m a zero top fits each = let none : length (flat_map g (map f (range_with_len a 0))) ≡ 0 = cc in omega (arith, none)
texts_short g f m a (suc n) top fits each =
    let rest : length (flat_map g (map f (range_with_len (a + 1) n))) ≤ m * n = texts_short g f m (a + 1) n top (omega (arith, fits)) (λ k from below. each k (omega (arith, from)) below) in
    let first : length (g (f a)) ≤ m = each a (omega arith) (omega (arith, fits)) in
    let both : length (flat_map g (map f (range_with_len a (suc n)))) ≡ length (g (f a)) + length (flat_map g (map f (range_with_len (a + 1) n))) =
    length-append (g (f a)) (flat_map g (map f (range_with_len (a + 1) n))) in
    let more : m * suc n ≡ m * n + m = omega arith in
    omega (arith, rest, first, both, more)

sign_short : (neg : Bool) → length (sign_text neg) ≤ 1
sign_short true = omega arith
sign_short false = omega arith

-- a literal of a variable up to 4096
literal_short : (l : Literal) → l.var ≤ 4096 → length (literal_text l) ≤ 4099
literal_short l small =
    omega (arith, small, sign_short l.neg, length-append (sign_text l.neg) (decimal l.var), length-decimal-le_succ l.var (omega (arith, small)))

clause_short : (lits : List Literal) (m : ℕ) → length (flat_map literal_text lits) ≤ m → length (clause_text lits) ≤ m + 3
clause_short lits m small =
    let two : length (codes " 0") ≡ 2 = cc in
    omega (arith, small, two, length-append (flat_map literal_text lits) (codes " 0"), length-append (flat_map literal_text lits ++ codes " 0") (10 ∷ []))

module _ (vars : ℕ) (some : 0 < vars) (small : vars ≤ 4096) where
  hard_short : (state : ℕ) → length (hard_line (drawn_clause vars state)) ≤ 12301
  hard_short state =
      let lits : length (flat_map literal_text (drawn_clause vars state)) ≤ 4099 * 3 =
      texts_short literal_text (drawn_item vars state) 4099 1 3 4 (omega arith)
      (λ k from below. literal_short (drawn_item vars state k) (omega (arith, draw_below vars state k some, small))) in
      let one : length (codes "h") ≡ 1 = cc in
      omega (arith, one, clause_short (drawn_clause vars state) 12297 (omega (arith, lits)), length-append (codes "h") (clause_text (drawn_clause vars state)))

  weight_short : (k weight : ℕ) → k ≤ 64 → weight ≤ 4 → length (weight_text k weight) ≤ 72
  weight_short k weight few light =
      let one : length (codes "o") ≡ 1 = cc in
      omega (arith, few, light, length-append (codes "o" ++ decimal k) (32 ∷ decimal weight), length-append (codes "o") (decimal k), one, length-decimal-le_succ k (omega (arith, few)), length-decimal-le_succ weight (omega (arith, light)))

  soft_short : (k state j : ℕ) → k ≤ 64 → j ≤ vars → length (soft_line k (drawn_soft state j)) ≤ 4174
  soft_short k state j few within =
      let soft : Soft = drawn_soft state j in
      let lit : Literal = record { var = j; neg = true } in
      let lits : length (flat_map literal_text (lit ∷ [])) ≤ 4099 = omega (arith, literal_short lit (omega (arith, within, small)), length-append (literal_text lit) []) in
      omega (arith, clause_short (lit ∷ []) 4099 lits, weight_short k (1 + draw 4 state j) few (omega (arith, draw_below 4 state j (omega arith))), length-append (weight_text k (1 + draw 4 state j)) (clause_text (lit ∷ [])))

  objective_short : (k state : ℕ) → k ≤ 64 → length (flat_map (soft_line k) (drawn_objective vars state).softs) ≤ 17096704
  objective_short k state few =
      omega (arith, small, texts_short (soft_line k) (drawn_soft state) 4174 1 vars (vars + 1) (omega arith) (λ j from below. soft_short k state j few (omega (arith, below))))

  -- objectives that are counted from k on
  objectives_short : (state k a n : ℕ) → k + n ≤ 65 → length (soft_lines k (map (nth_objective vars state) (range_with_len a n))) ≤ 17096704 * n
  objectives_short state k a zero few = let none : length (soft_lines k (map (nth_objective vars state) (range_with_len a 0))) ≡ 0 = cc in omega (arith, none)
  objectives_short state k a (suc n) few =
      let first : List ℕ = flat_map (soft_line k) (drawn_objective vars (state_after (vars * a) state)).softs in
      let rest : List ℕ = soft_lines (k + 1) (map (nth_objective vars state) (range_with_len (a + 1) n)) in
      omega (arith, objective_short k (state_after (vars * a) state) (omega (arith, few)), objectives_short state (k + 1) (a + 1) n (omega (arith, few)), length-append first rest)

  pub generated_short : (number objectives : ℕ) → objectives ≤ 64 → length (mcnf_text (generated number vars objectives)) < 2 ^ 32
  generated_short number objectives few =
      let start : ℕ = beginning number in
      let hard : List ℕ = flat_map hard_line (map (nth_clause vars start) (range_with_len 0 vars)) in
      let soft : List ℕ = soft_lines 1 (map (nth_objective vars (state_after (3 * vars) start)) (range_with_len 0 objectives)) in
      let hards : length hard ≤ 12301 * vars = texts_short hard_line (nth_clause vars start) 12301 0 vars vars (omega arith) (λ k from below. hard_short (state_after (3 * k) start)) in
      omega (arith, hards, small, few, objectives_short (state_after (3 * vars) start) 1 0 objectives (omega (arith, few)), length-append hard soft)
