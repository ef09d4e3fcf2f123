use Rattle.std.proofs.Common.{◌≡◌, ◌+◌, List, [], ◌∷◌, ◌++◌, map, take, get_or, sym, ap, ◌∙◌, subst, append_assoc}
use Rattle.std.specs.Prelude.{All}
use Rattle.std.specs.List.{AllZip}
use Rattle.std.proofs.lemmas.Option.{slice_get_within, get_or_from_slice_get}
use Rattle.std.proofs.lemmas.List.{map-append}
use Rattle.std.proofs.lemmas.List.Elements.{All-push}
use Rattle.pb_lin.proofs.AtPlace.{take_place}
use Rattle.scut_base.specs.Literal.{Literal}
use Rattle.instance.specs.Shape.{ClauseUpTo}
use Rattle.instance_normal.specs.NormalForm.{RowSource, Clause, IsRowOf}
use Rattle.instance_normal.specs.Fitting.{Fits}
use Rattle.instance_normal.proofs.Sizes.{row_added}
use Rattle.instance_normal.proofs.rows.add_clauses.Goals as goal

pub loop-at-preserved : goal.loop-at-preserved
loop-at-preserved c =
    let clauses : List (List Literal) = c.args.clauses.now in
    let at = c.loop-at.at in
    let lits : List Literal = c.clause.result.now in
    let done : List (List Literal) = take at clauses in
    let longer : take (at + 1) clauses ≡ done ++ lits ∷ [] = take_place clauses at lits c.clause.ensures in
    let within_list = slice_get_within clauses at lits c.clause.ensures in
    let is : get_or clauses at lits ≡ lits = get_or_from_slice_get clauses at lits lits c.clause.ensures in
    record {
      rows = λ ss zipped.
          let sources : (ss ++ map (λ x. Clause x) done) ++ Clause lits ∷ [] ≡ ss ++ map (λ x. Clause x) (take (at + 1) clauses) =
          append_assoc ss (map (λ x. Clause x) done) (Clause lits ∷ []) ∙ ap (λ (rs : List RowSource). ss ++ rs) (sym (ap (map (λ x. Clause x)) longer ∙ map-append (λ x. Clause x) done (lits ∷ []))) in
          subst (λ (rs : List RowSource). AllZip IsRowOf rs c.push.new.self) sources (row_added (ss ++ map (λ x. Clause x) done) (Clause lits) c.loop-at.rows c.push.new.self c.in_ok-row.row (c.loop-at.invariant.rows ss zipped) c.in_ok-row.ensures.row c.in_ok-push.ensures.ok);
      fits = λ n within all.
          let here : ClauseUpTo n lits = subst (ClauseUpTo n) is (within at lits within_list) in
          subst (All (Fits n)) (sym c.in_ok-push.ensures.ok) (All-push (Fits n) c.loop-at.rows c.in_ok-row.row (c.loop-at.invariant.fits n within all) (c.in_ok-row.ensures.fits n here));
    }
