-- Draws, one after another.
use Rattle.std.proofs.Common.{◌≡◌, ℕ, zero, suc, ◌+◌, ◌*◌, Bool, List, [], ◌∷◌, ◌++◌, map, sym, ap, subst, ◌∙◌, arith}
use Rattle.std.specs.List.{range_with_len}
use Rattle.std.proofs.lemmas.List.FromFn.{map-range_with_len_more}
use Rattle.std.proofs.Math.Nat.{mul-suc}
use Rattle.scut_base.specs.Literal.{Literal}
use Rattle.instance.specs.declared.row.Linear.{Linear}
use Rattle.instance.specs.declared.objective.Objective.{Objective}
use Rattle.instance.specs.Shape.{InstanceValue}
use Rattle.command_gen.specs.Draws.{beginning, next_state, state_after}
use Rattle.command_gen.specs.Generated.{drawn_clauses, drawn_objectives, generated}

-- so many draws, and then so many
pub state_sum : (b a c s : ℕ) → a + b ≡ c → state_after c s ≡ state_after b (state_after a s)
state_sum zero a c s e = let same : c ≡ a = omega (arith, e) in ap (λ k. state_after k s) same
state_sum (suc b) a zero s e = absurd (omega (arith, e))
state_sum (suc b) a (suc c) s e = ap next_state (state_sum b a c s (omega (arith, e)))

-- the next draw
pub next_after : (i j s d : ℕ) → i + 1 ≡ j → d ≡ state_after i s → next_state d ≡ state_after j s
next_after i zero s d e is = absurd (omega (arith, e))
next_after i (suc j) s d e is = let same : i ≡ j = omega (arith, e) in ap next_state (is ∙ ap (λ k. state_after k s) same)

-- what was drawn so far, and the next
pub drawn_more : {X : Type 0} (f : ℕ → X) (a i j : ℕ) (old new : List X) (x : X) → a + i ≡ j → old ≡ map f (range_with_len a i) → new ≡ old ++ x ∷ [] → x ≡ f j → new ≡ map f (range_with_len a (i + 1))
drawn_more f a i j old new x e so_far push is =
    push
    ∙ ap (λ xs. xs ++ x ∷ []) so_far
    ∙ ap (λ y. map f (range_with_len a i) ++ y ∷ []) is
    ∙ sym (map-range_with_len_more f a i j e)

-- the next of n draws each
pub one_more_of : (n i : ℕ) → n * i + n ≡ n * (i + 1)
one_more_of n i = let next : suc i ≡ i + 1 = omega arith in subst (λ j. n * i + n ≡ n * j) next (sym (mul-suc n i))

abbrev literal_of : ℕ → Bool → Literal
literal_of var neg = record { var = var; neg = neg }

pub literal_is : (l : Literal) (var : ℕ) (neg : Bool) → l.var ≡ var → l.neg ≡ neg → l ≡ literal_of var neg
literal_is l var neg same_var same_neg = ap (λ v. literal_of v l.neg) same_var ∙ ap (literal_of var) same_neg

abbrev instance_of : ℕ → List (List Literal) → List Linear → List Objective → InstanceValue
instance_of vars clauses linear objectives = record { vars = vars; clauses = clauses; linear = linear; objectives = objectives }

-- the instance of what was drawn
pub made_is : (number vars count v start mid : ℕ) (clauses : List (List Literal)) (linear : List Linear) (objectives : List Objective) → v ≡ vars → start ≡ beginning number
    → clauses ≡ drawn_clauses vars start → linear ≡ [] → mid ≡ state_after (3 * vars) start → objectives ≡ drawn_objectives vars count mid → instance_of v clauses linear objectives ≡ generated number vars count
made_is number vars count v start mid clauses linear objectives same begun hard none after soft =
    ap (λ n. instance_of n clauses linear objectives) same
    ∙ ap (λ list. instance_of vars list linear objectives) (hard ∙ ap (drawn_clauses vars) begun)
    ∙ ap (λ list. instance_of vars (drawn_clauses vars (beginning number)) list objectives) none
    ∙ ap (λ list. instance_of vars (drawn_clauses vars (beginning number)) [] list) (soft ∙ ap (drawn_objectives vars count) (after ∙ ap (state_after (3 * vars)) begun))
