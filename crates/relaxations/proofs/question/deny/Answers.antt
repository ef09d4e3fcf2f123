-- A literal that is pushed is of a variable of its own.
use Rattle.std.proofs.Common.{rules, ◌≡◌, List, [], ◌∷◌, ◌++◌, ap, refl, sym, subst, ◌∙◌}
use Rattle.scut_base.specs.Literal.{Literal}
use Rattle.pb_lin.specs.Constraint.{opposite}
use Rattle.totalizer.specs.declared.bound.Bound.{Bound}
use Rattle.totalizer.specs.declared.bound.Bound.TheVariants.{At}
use Rattle.relaxations.specs.Questions.{AddsDenial}
use Rattle.relaxations.proofs.Denials.{IsAbsent, absent_from, adds_denial, opposite_is}
use Rattle.relaxations.proofs.question.deny.Goals as goal

pub returns-in_ok-map_err-in-At-clause-denied : goal.returns-in_ok-map_err-in-At-clause-denied
returns-in_ok-map_err-in-At-clause-denied c =
    let lits = c.args.lits.now in
    let l = c.in-At.lit in
    let denial : c.not-denial.result ≡ opposite l =
    opposite_is c.not-denial.result l c.not-denial.ensures.var c.not-denial.ensures.neg in
    let absent : IsAbsent lits l =
    absent_from c.as_slice.result.now lits l l c.contains.result c.as_slice.ensures refl
    c.contains.ensures.value c.if-contains.false in
    let new : IsAbsent lits (opposite l) =
    absent_from c.as_slice-in-At.result.now lits c.not-denial.result (opposite l) c.contains-in-At.result
    c.as_slice-in-At.ensures denial c.contains-in-At.ensures.value c.if-not-contains.true in
    let pushed : c.push.new.self ≡ lits ++ c.not-denial.result ∷ [] = search rules in
    let all : c.push.new.self ≡ lits ++ opposite l ∷ [] = pushed ∙ ap (λ (m : Literal). lits ++ m ∷ []) denial in
    subst (λ (b : Bound). AddsDenial lits c.push.new.self b) (sym c.in-At.is)
    (subst (λ (ls : List Literal). AddsDenial lits ls (At l c.in-At.lower_line)) (sym all)
    (adds_denial lits l c.in-At.lower_line absent new))
