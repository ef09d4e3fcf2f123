use Rattle.std.proofs.Common.{◌≡◌, ◌+◌, List, [], ◌∷◌, ◌++◌, take, sym, ap, ◌∙◌, subst, append_assoc, append-nil}
use Rattle.std.specs.List.{AllZip, flat_map}
use Rattle.std.proofs.lemmas.List.{take_more}
use Rattle.std.proofs.lemmas.List.Concat.{flat_map-append}
use Rattle.instance.specs.declared.row.Linear.{Linear}
use Rattle.instance.specs.Shape.{IsRowWithin}
use Rattle.instance_normal.specs.NormalForm.{RowSource, linear_sources, IsRowOf}
use Rattle.instance_normal.proofs.rows.add_linear.Goals as goal

pub loop-row-preserved : goal.loop-row-preserved
loop-row-preserved c =
    let row : Linear = c.row-item.result in
    let done : List Linear = take c.loop-row.row-index c.args.linear.now in
    let longer : take (c.loop-row.row-index + 1) c.args.linear.now ≡ done ++ row ∷ [] = take_more c.args.linear.now c.loop-row.row-index row c.loop-row-test.true ∙ ap (λ (x : Linear). done ++ x ∷ []) (sym c.row-item.is) in
    record {
      rows = λ ss zipped.
          let sources : (ss ++ flat_map linear_sources done) ++ linear_sources row ≡ ss ++ flat_map linear_sources (take (c.loop-row.row-index + 1) c.args.linear.now) =
          append_assoc ss (flat_map linear_sources done) (linear_sources row) ∙ ap (λ (rs : List RowSource). ss ++ rs) (sym (ap (flat_map linear_sources) longer ∙ flat_map-append linear_sources done (row ∷ []) ∙ ap (λ (rs : List RowSource). flat_map linear_sources done ++ rs) (append-nil (linear_sources row)))) in
          subst (λ (rs : List RowSource). AllZip IsRowOf rs c.add_row.new.rows) sources (c.in_ok-add_row.ensures.rows (ss ++ flat_map linear_sources done) (c.loop-row.invariant.rows ss zipped));
      fits = λ n within all.
          let here : IsRowWithin n row = subst (IsRowWithin n) (sym c.row-item.is) (within c.loop-row.row-index row c.loop-row-test.true) in
          c.in_ok-add_row.ensures.fits n here.variables (c.loop-row.invariant.fits n within all);
    }
