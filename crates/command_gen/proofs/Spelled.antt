-- What is printed of an instance spells it.
use Rattle.std.proofs.Common.{◌≡◌, ℕ, List, [], ◌∷◌, ◌++◌, length, map, sym, ap, subst, ◌∙◌, append-nil, arith}
use Rattle.std.specs.Prelude.{All}
use Rattle.std.specs.List.{AllZip, flat_map, range_with_len}
use Rattle.scut_base.specs.Literal.{Literal}
use Rattle.instance.specs.declared.objective.Objective.{Objective}
use Rattle.instance.specs.Shape.{InstanceValue, IsWithinLimits}
use Rattle.mcnf_reader.specs.declared.statement.Statement.{Statement}
use Rattle.mcnf_reader.specs.declared.statement.Statement.TheVariants.{Nothing, Hard}
use Rattle.mcnf_reader.specs.Grammar.{Spells, SpellsStatement, hard_clauses, objective_at, objective_count, objectives_of, softs_of}
use Rattle.mcnf_reader.specs.Words.{lines_of, words_of}
use Rattle.command_gen.specs.Printed.{AllOccur, AreVariables, IsPlain, IsPlainObjective, hard_line, mcnf_text, soft_lines, soft_statements, statements_of}
use Rattle.command_gen.proofs.Lines.{text_back}
use Rattle.command_gen.proofs.Objectives.{count_with_nothing, hard_clauses-append, hards_of_hards, hards_of_objectives, largest_with_nothing, objectives_same, softs_of-append, softs_of_hards}
use Rattle.command_gen.proofs.Statements.{AllCanBeSaid, AllCanBeSaid-append, ArePrintable, all_said, hards_can, soft_statements_can, statement_words, statements_are_lines, statements_spelled}

-- the text by its two parts
pub whole_text : (i : InstanceValue) (clauses : List (List Literal)) (objectives : List Objective) (empty first text : List ℕ) → empty ≡ [] → first ≡ empty ++ flat_map hard_line clauses
    → text ≡ first ++ soft_lines 1 objectives → clauses ≡ i.clauses → objectives ≡ i.objectives → text ≡ mcnf_text i
whole_text i clauses objectives empty first text none one two same_clauses same_objectives =
    two
    ∙ ap (λ bytes. bytes ++ soft_lines 1 objectives) (one ∙ ap (λ bytes. bytes ++ flat_map hard_line clauses) none)
    ∙ ap (λ list. flat_map hard_line list ++ soft_lines 1 objectives) same_clauses
    ∙ ap (λ list. flat_map hard_line i.clauses ++ soft_lines 1 list) same_objectives

module _ (i : InstanceValue) where
  -- the statements that are read
  abbrev read : List Statement
  read = statements_of i ++ Nothing ∷ []

  can : IsWithinLimits i → All AreVariables i.clauses → All ArePrintable i.objectives → AllCanBeSaid (statements_of i)
  can limits hard soft =
      AllCanBeSaid-append (map Hard i.clauses) (soft_statements 1 i.objectives) (hards_can i.clauses hard)
      (soft_statements_can 1 i.objectives (omega arith) (omega (arith, limits.count)) soft)

  lines_spelled : AllCanBeSaid (statements_of i) → AllZip SpellsStatement (map words_of (lines_of (mcnf_text i))) read
  lines_spelled all =
      let back : map words_of (lines_of (mcnf_text i)) ≡ map statement_words (statements_of i) ++ [] ∷ [] =
      ap (λ text. map words_of (lines_of text)) (all_said i.clauses i.objectives)
      ∙ text_back (map statement_words (statements_of i)) (statements_are_lines (statements_of i) all) in
      subst (λ lines. AllZip SpellsStatement lines read) (sym back) (statements_spelled (statements_of i) all)

  clauses_same : i.clauses ≡ hard_clauses read
  clauses_same = sym (
      hard_clauses-append (statements_of i) (Nothing ∷ [])
      ∙ append-nil (hard_clauses (statements_of i))
      ∙ hard_clauses-append (map Hard i.clauses) (soft_statements 1 i.objectives)
      ∙ ap (λ list. list ++ hard_clauses (soft_statements 1 i.objectives)) (hards_of_hards i.clauses)
      ∙ ap (λ list. i.clauses ++ list) (hards_of_objectives 1 i.objectives)
      ∙ append-nil i.clauses)

  softs_same : (k : ℕ) → softs_of k read ≡ softs_of k (soft_statements 1 i.objectives)
  softs_same k =
      softs_of-append k (statements_of i) (Nothing ∷ [])
      ∙ append-nil (softs_of k (statements_of i))
      ∙ softs_of-append k (map Hard i.clauses) (soft_statements 1 i.objectives)
      ∙ ap (λ list. list ++ softs_of k (soft_statements 1 i.objectives)) (softs_of_hards k i.clauses)

  objectives_are : All IsPlainObjective i.objectives → objective_count (statements_of i) ≡ length i.objectives → i.objectives ≡ objectives_of read
  objectives_are plain count = sym (
      ap (λ n. map (objective_at read) (range_with_len 1 n)) (count_with_nothing (statements_of i) ∙ count)
      ∙ objectives_same (λ k. softs_of k read) 1 i.objectives plain (λ k later. softs_same k))

  pub printed_spells : IsWithinLimits i → IsPlain i → All AreVariables i.clauses → All ArePrintable i.objectives → AllOccur i → Spells (mcnf_text i) i
  printed_spells limits plain hard soft occur = record {
    statements = read;
    lines = lines_spelled (can limits hard soft);
    variables = sym (largest_with_nothing (statements_of i) ∙ occur.variable);
    clauses = clauses_same;
    rows = plain.rows;
    objectives = objectives_are plain.objectives occur.objective;
    limits = limits;
  }
