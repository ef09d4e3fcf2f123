use Rattle.std.proofs.Common.{◌≡◌, ℕ, ◌+◌, ◌<◌, List, [], ◌∷◌, ◌++◌, map, take, length, get_or, ap, sym, ◌∙◌, append_assoc, arith}
use Rattle.std.proofs.lemmas.List.{map_more, take_all}
use Rattle.scut_base.specs.Literal.{Literal}
use Rattle.proof_rules.proofs.row_index.enter.Goals as goal

-- one more literal is entered
entered_more : (place : ℕ) (ls : List Literal) (i : ℕ) (l : Literal) (old es new : List (ℕ × ℕ)) (v : ℕ) → i < length ls → l ≡ get_or ls i l → v ≡ l.var → es ≡ old ++ map (λ m. (m.var, place)) (take i ls) → new ≡ es ++ (v, place) ∷ [] →
    new ≡ old ++ map (λ m. (m.var, place)) (take (i + 1) ls)
entered_more place ls i l old es new v short is value before pushed =
    pushed
    ∙ ap (λ (xs : List (ℕ × ℕ)). xs ++ (v, place) ∷ []) before
    ∙ ap (λ (n : ℕ). (old ++ map (λ (m : Literal). (m.var, place)) (take i ls)) ++ (n, place) ∷ []) (value ∙ ap (λ (m : Literal). m.var) is)
    ∙ append_assoc old (map (λ (m : Literal). (m.var, place)) (take i ls)) (((get_or ls i l).var, place) ∷ [])
    ∙ ap (λ (xs : List (ℕ × ℕ)). old ++ xs) (sym (map_more (λ (m : Literal). (m.var, place)) ls i l short))

pub loop-literal-preserved : goal.loop-literal-preserved
loop-literal-preserved c =
    entered_more c.args.place c.args.literals.now c.loop-literal.literal-index c.literal-item.result c.args.entries.now.items c.loop-literal.entries.items c.push.new.self.items c.var.result c.loop-literal-test.true c.literal-item.is c.var.ensures.value c.loop-literal.invariant c.in_ok-push.ensures.items

pub returns : goal.returns
returns c =
    c.loop-literal.invariant ∙ ap (λ (ls : List Literal). c.args.entries.now.items ++ map (λ (m : Literal). (m.var, c.args.place)) ls) (take_all c.loop-literal.literal-index c.args.literals.now (omega arith))
