use Rattle.std.proofs.Common.{◌≡◌, ◌∙◌, ap, sym, subst, refl, ◌++◌, List, ℕ, Option, Some, None}
use Rattle.std.specs.Prelude.{IsSome}
use Rattle.std.specs.BTreeMap.{get_by_text}
use Rattle.std.specs.FinMap.{insert}
use Rattle.std.proofs.Math.Bool.{false≢true}
use Rattle.std.proofs.lemmas.Map.Steps.{set_value_same}
use Rattle.std.proofs.lemmas.Map.Text.{btree_map_updates_text}
use Rattle.scut_base.specs.Files.{Files, content, bytes_or_none}
use Rattle.scut_base.specs.FileMap.{files_of}
use Rattle.scut_base.proofs.FileLaws.{on_err_anyway}
use Rattle.scut_base.proofs.FileMapLaws.{content_file, files_put}
use Rattle.scut_base.proofs.file_map.FileMap.append.Goals as goal

pub returns-clause-ok : goal.returns-clause-ok
returns-clause-ok c =
    let m = c.self.inside.files in
    let name = c.args.name.now in
    let grown = c.extend_from_slice.new.self in
    let held : get_by_text m name ≡ Some c.in-Some.bytes.now = sym c.in-Some.ensures.value in
    let was : content (Some c.args.self.now) name ≡ Some c.in-Some.bytes.now = ap (λ (f : Files). content (Some f) name) (sym c.self.view_is) ∙ content_file m name ∙ held in
    let more : grown ≡ c.in-Some.bytes.now ++ c.args.piece.now = c.in_ok-extend_from_slice-in-Some.ensures.ok in
    files_put m (c.get_mut.follows.lender grown) name grown
    (btree_map_updates_text name m (c.get_mut.follows.lender grown) (Some grown) ((c.get_mut.follows.holds grown).3 (subst IsSome (sym held) refl)))
    ∙ ap (λ (f : Files). insert f name grown) c.self.view_is
    ∙ ap (insert c.args.self.now name) (more ∙ ap (λ o. bytes_or_none o ++ c.args.piece.now) (sym was))

pub returns-in_err-extend_from_slice-in-Some-clause-err : goal.returns-in_err-extend_from_slice-in-Some-clause-err
returns-in_err-extend_from_slice-in-Some-clause-err c =
    let m = c.self.inside.files in
    let kept : c.extend_from_slice.new.self ≡ c.in-Some.bytes.now = c.in_err-extend_from_slice-in-Some.ensures.err in
    let held : get_by_text m c.args.name.now ≡ Some c.extend_from_slice.new.self = sym c.in-Some.ensures.value ∙ ap Some (sym kept) in
    on_err_anyway _ (ap files_of ((c.get_mut.follows.holds c.extend_from_slice.new.self).0 ∙ set_value_same _ m.entries c.extend_from_slice.new.self held) ∙ c.self.view_is)

pub unreachable-requires : goal.unreachable-requires
unreachable-requires c =
    let name = c.args.name.now in
    let gone : content (Some c.args.self.now) name ≡ None = ap (λ (f : Files). content (Some f) name) (sym c.self.view_is) ∙ content_file c.self.inside.files name ∙ sym c.in-None.ensures.value in
    false≢true (subst (λ (o : Option (List ℕ)). IsSome o) gone c.requires)
