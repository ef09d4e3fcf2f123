use Rattle.std.proofs.Common.{◌≡◌, ◌<◌, List, length, ap, sym, ◌∙◌, arith, refl, rules, Some, ℕ}
use Rattle.std.specs.Prelude.{slice_get}
use Rattle.std.proofs.lemmas.Option.{slice_get_read}
use Rattle.scut_base.specs.Literal.{Literal}
use Rattle.pb_lin.specs.Constraint.{ConstraintValue}
use Rattle.pb_lin.specs.Stored.{terms_of}
use Rattle.pb_lin.proofs.Terms.{length-terms_of, slice_get-terms_of}
use Rattle.pb_lin.proofs.constraint.Constraint.term.Goals as goal

-- a place of a term is one of a literal
below : (lits : List Literal) (coefs : List ℕ) (degree : ℕ) (value : ConstraintValue) (at : ℕ) (slice : List Literal)
    → record { terms = terms_of lits coefs; degree = degree } ≡ value → at < length value.terms → slice ≡ lits → at < length slice
below lits coefs degree value at slice view there same =
    let long = length-terms_of lits coefs in
    let terms = ap (λ (v : ConstraintValue). length v.terms) view in
    let lengths = ap length same in
    omega arith

pub bounds-literals-at : goal.bounds-literals-at
bounds-literals-at c = below _ _ _ _ _ _ c.self.view_is c.requires c.literals.ensures

pub offset_bounds-literals-at : goal.offset_bounds-literals-at
offset_bounds-literals-at c = let there = below _ _ _ _ _ _ c.self.view_is c.requires c.literals.ensures in search rules

pub returns : goal.returns
returns c =
    let slice = c.literals.result.now in
    let lit = c.index-literals-at.result in
    let there = below _ _ _ _ _ _ c.self.view_is c.requires c.literals.ensures in
    let read : slice_get c.self.inside.parts.lits c.args.at ≡ Some lit = rw (← c.literals.ensures) (slice_get_read slice (length slice) c.args.at lit refl there c.index-literals-at.is) in
    rw (← c.self.view_is) (slice_get-terms_of c.self.inside.parts.lits c.self.inside.parts.coefs c.args.at lit read ∙ ap (λ (n : ℕ). Some (lit, n)) (sym c.coefficient.ensures))
