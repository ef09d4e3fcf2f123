use Rattle.std.proofs.Common.{rules}
use Rattle.std.proofs.lemmas.Bool.Decides.{Decides-int_eq}
use Rattle.std.proofs.lemmas.Slice.Eq.{slice_eq-Decides}
use Rattle.log_checker.proofs.list.are_same.Goals as goal

pub returns : goal.returns
returns c =
    let same = slice_eq-Decides Decides-int_eq c.as_slice.result.now c.as_slice-2.result.now c.eq.result c.eq.ensures in
    search (rules, same)
