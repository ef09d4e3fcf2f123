-- Which texts have a fault, by what they spell.
use Rattle.std.proofs.Common.{◌≡◌, ℕ, ◌+◌, ◌<◌, ◌^◌, List, [], ◌∷◌, ◌++◌, length, map, None, refl, sym, ap, ◌∙◌, subst, append_assoc, append-nil, arith}
use Rattle.std.specs.Option.{option_map}
use Rattle.std.specs.List.{AllZip}
use Rattle.instance.specs.Reading.{at_line}
use Rattle.instance.specs.Shape.{InstanceValue, IsWithinLimits}
use Rattle.mcnf_reader.specs.declared.statement.Statement.{Statement}
use Rattle.mcnf_reader.specs.Words.{words_of, lines_of}
use Rattle.mcnf_reader.specs.Grammar.{Spells, SpellsStatement, largest_variable, objectives_of}
use Rattle.mcnf_reader.specs.FirstFault.{line_fault, fault_after, first_fault}
use Rattle.mcnf_reader.specs.LineLimits.{IsStatementWithin}
use Rattle.mcnf_reader.specs.Draft.{objective_numbers, weight_of}
use Rattle.scut_base.proofs.Options.{or_none, map_none}
use Rattle.mcnf_reader.proofs.StatementFaults.{line_none, line_from, sums_same}
use Rattle.mcnf_reader.proofs.Texts.{spelled_push, fault_on}
use Rattle.mcnf_reader.proofs.Limits.{AreWithin, statement_within, within_push, statements_instance, statements_spell}

no_fault_after : (i : InstanceValue) (before : List (List (List ℕ))) (done : List Statement) (lines : List (List (List ℕ))) (left : List Statement) → AllZip SpellsStatement before done → AllZip SpellsStatement lines left → i.vars ≡ largest_variable (done ++ left) → i.objectives ≡ objectives_of (done ++ left) → IsWithinLimits i → fault_after before lines ≡ None
no_fault_after i before done [] left spelled says vars objectives limits = refl
no_fault_after i before done (words ∷ lines) [] spelled says vars objectives limits = absurd says
no_fault_after i before done (words ∷ lines) (s ∷ left) spelled says vars objectives limits =
    let within : IsStatementWithin (map (weight_of done) objective_numbers) s = statement_within i done left words s says.0 vars objectives limits in
    let none : line_fault before words ≡ None = line_none before (map (weight_of done) objective_numbers) (sums_same before done spelled) words s says.0 within in
    let moved : done ++ s ∷ left ≡ (done ++ s ∷ []) ++ left = sym (append_assoc done (s ∷ []) left) in
    fault_on before words lines none ∙ no_fault_after i (before ++ words ∷ []) (done ++ s ∷ []) lines left (spelled_push before done words s spelled says.0) says.1 (vars ∙ ap largest_variable moved) (objectives ∙ ap objectives_of moved) limits

-- a text that spells an instance has no fault
pub no_fault : (text : List ℕ) (i : InstanceValue) → Spells text i → first_fault text ≡ None
no_fault text i spells = no_fault_after i [] [] (map words_of (lines_of text)) spells.statements tt spells.lines spells.variables spells.objectives spells.limits

-- the statements of lines without a fault
abbrev HasStatements : List (List (List ℕ)) → Type 0
HasStatements lines = (all : List Statement) × AllZip SpellsStatement lines all × AreWithin all

statements_after : (before : List (List (List ℕ))) (done : List Statement) (lines : List (List (List ℕ))) → AllZip SpellsStatement before done → AreWithin done → fault_after before lines ≡ None → HasStatements (before ++ lines)
statements_after before done [] spelled within none = (done, subst (λ (ls : List (List (List ℕ))). AllZip SpellsStatement ls done) (sym (append-nil before)) spelled, within)
statements_after before done (words ∷ lines) spelled within none =
    let parts = or_none (option_map (at_line (length before + 1)) (line_fault before words)) (fault_after (before ++ words ∷ []) lines) none in
    let sums = map (weight_of done) objective_numbers in
    let here = line_from before sums (sums_same before done spelled) words (map_none (at_line (length before + 1)) (line_fault before words) parts.0) in
    subst HasStatements (append_assoc before (words ∷ []) lines) (statements_after (before ++ words ∷ []) (done ++ here.0 ∷ []) lines (spelled_push before done words here.0 spelled here.1) (within_push done here.0 here.2 within) parts.1)

-- a text of fewer than 2^32 bytes without a fault spells an instance
pub spelled_without_fault : (text : List ℕ) → length text < 2 ^ 32 → first_fault text ≡ None → (i : InstanceValue) × Spells text i
spelled_without_fault text short none =
    let empty : AreWithin [] = record { variables = omega arith; count = omega arith; weights = λ k some le. omega arith } in
    let found = statements_after [] [] (map words_of (lines_of text)) tt empty none in
    (statements_instance found.0, statements_spell text found.0 short found.1 found.2)
