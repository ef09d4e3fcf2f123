use Rattle.std.proofs.Common.{◌≡◌, ℕ, List, [], ◌∷◌, ◌++◌, Some, length, refl, ap, sym, ◌∙◌, arith}
use Rattle.std.specs.Prelude.{slice_get}
use Rattle.std.proofs.lemmas.List.{take_all}
use Rattle.std.proofs.lemmas.Option.{slice_get_read}
use Rattle.scut_base.specs.Literal.{Literal}
use Rattle.pb_lin.specs.Stored.{terms_of}
use Rattle.pb_lin.proofs.AtPlace.{take_place}
use Rattle.pb_lin.proofs.Terms.{length-terms_of, slice_get-terms_of}
use Rattle.pb_lin.proofs.constraint.paired.Goals as goal

pub loop-at-preserved : goal.loop-at-preserved
loop-at-preserved c =
    let lits = c.args.lits.now in
    let terms = terms_of lits c.args.coefs.now in
    let lit : slice_get lits c.loop-at.at ≡ Some c.index-lits-at.result = slice_get_read lits (length lits) c.loop-at.at c.index-lits-at.result refl c.loop-at-test.true c.index-lits-at.is in
    let term : slice_get terms c.loop-at.at ≡ Some (c.index-lits-at.result, c.coefficient.result)
    = slice_get-terms_of lits c.args.coefs.now c.loop-at.at c.index-lits-at.result lit ∙ ap (λ (n : ℕ). Some (c.index-lits-at.result, n)) (sym c.coefficient.ensures) in
    c.in_ok-push.ensures.ok ∙ ap (λ (ts : List (Literal × ℕ)). ts ++ (c.index-lits-at.result, c.coefficient.result) ∷ []) c.loop-at.invariant
    ∙ sym (take_place terms c.loop-at.at (c.index-lits-at.result, c.coefficient.result) term)

pub returns : goal.returns
returns c =
    let long = length-terms_of c.args.lits.now c.args.coefs.now in
    c.loop-at.invariant ∙ take_all c.loop-at.at (terms_of c.args.lits.now c.args.coefs.now) (omega (arith, long, c.loop-at-test.false))
