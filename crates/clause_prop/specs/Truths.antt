-- How the table of truths by literals agrees with the values by variables.
use Rattle.std.specs.Prelude.{◌≡◌, ◌+◌, ◌*◌, ◌<◌, ◌≤◌, Bool, true, false, List, length, slice_index_or, Option, Some, None}
use Rattle.scut_base.specs.Assignment.{partial_truth}
use Rattle.scut_base.specs.Literal.{Literal}
use Rattle.scut_base.specs.LiteralCode.{code_of}
use Rattle.clause_prop.specs.declared.truth.Truth.{Truth}
use Rattle.clause_prop.specs.declared.truth.Truth.TheVariants.{Open, True, False}

-- the truth that stands for a value
abbrev pub truth_of : Option Bool → Truth
truth_of None = Open
truth_of (Some true) = True
truth_of (Some false) = False

-- Each literal has its truth, and there is room for those of the variables.
pub record AreTruths (values : List (Option Bool)) (truths : List Truth) : Type 0 where
  pub room : 2 * length values + 2 ≤ length truths
  pub told : (l : Literal) → 0 < l.var → slice_index_or truths (code_of l) Open ≡ truth_of (partial_truth values l)
