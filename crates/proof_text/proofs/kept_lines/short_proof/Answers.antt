use Rattle.std.proofs.Common.{◌≡◌, refl, ◌∙◌}
use Rattle.std.specs.Prelude.{map}
use Rattle.scut_base.specs.LiteralCode.{literal_of}
use Rattle.pb_lin.specs.Constraint.{literals}
use Rattle.proof_text.proofs.KeptBack.{clause_back}
use Rattle.proof_text.proofs.kept_lines.short_proof.Goals as goal

pub returns : goal.returns
returns c =
    let are = c.if-not-is_clause.ensures.0 refl in
    let codes : map literal_of c.in-Some.codes ≡ literals c.args.goal.now.terms = rw c.in-Some.is at c.in_ok-codes.ensures ∙ c.literals.ensures.value in
    record {
      clause = clause_back c.args.goal.now c.in-Some.codes are.0 are.1 codes;
      proof = rw c.in-Some-2.is at c.in_ok-numbers.ensures;
    }
