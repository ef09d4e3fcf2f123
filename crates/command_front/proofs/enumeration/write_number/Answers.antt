use Rattle.std.proofs.Common.{◌≡◌, ◌%◌, not, set, eqb, length, Bool, ap, ◌∙◌, arith, rules}
use Rattle.std.proofs.lemmas.List.{length-set}
use Rattle.command_front.proofs.Numbered.{digit_written, not_even}
use Rattle.command_front.proofs.enumeration.write_number.Goals as goal

pub loop-at-preserved : goal.loop-at-preserved
loop-at-preserved c =
    let digit : Bool = not c.new.result.neg in
    let written : c.set.new.self ≡ set c.loop-at.a c.loop-at.at digit = search rules in
    let same : length c.set.new.self ≡ length c.loop-at.a = ap length written ∙ length-set _ _ _ in
    let is : digit ≡ eqb (c.loop-at.rest % 2) 1 = ap not c.new.ensures.neg ∙ not_even c.loop-at.rest in
    record {
      variables = same ∙ c.loop-at.invariant.variables;
      digits = rw written (rw (length-set c.loop-at.a c.loop-at.at digit) (digit_written c.loop-at.a c.loop-at.at c.loop-at.rest digit _ (omega arith) is c.loop-at.invariant.digits));
    }
