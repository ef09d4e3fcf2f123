use Rattle.std.proofs.Common.{◌≡◌, ◌∙◌, ◌+◌, ℕ, Some, List, [], ◌∷◌, ◌++◌, ap, sym, take}
use Rattle.std.specs.List.{slice_get}
use Rattle.std.proofs.lemmas.List.{map-append, take_more}
use Rattle.std.proofs.lemmas.Option.{slice_get_within, get_or_from_slice_get}
use Rattle.scut_base.specs.Literal.{Literal}
use Rattle.pb_lin.specs.Constraint.{literals}
use Rattle.cutting_planes.proofs.Terms.{Terms}
use Rattle.cutting_planes.proofs.operand.Operand.to_literals.Goals as goal

-- the next literal
literals_more : (ts : Terms) (i : ℕ) (t : Literal × ℕ) → slice_get ts i ≡ Some t → literals (take (i + 1) ts) ≡ literals (take i ts) ++ t.0 ∷ []
literals_more ts i t is =
    ap literals (take_more ts i t (slice_get_within ts i t is) ∙ ap (λ (u : Literal × ℕ). take i ts ++ u ∷ []) (get_or_from_slice_get ts i t t is))
    ∙ map-append (λ t. t.0) (take i ts) (t ∷ [])

pub loop-at-preserved : goal.loop-at-preserved
loop-at-preserved c =
    c.in_ok-push.ensures.items ∙ ap (λ (ls : List Literal). ls ++ c.term-lit.result.0 ∷ []) c.loop-at.invariant ∙ sym (literals_more c.args.self.now.terms c.loop-at.at c.term-lit.result c.term-lit.ensures)
