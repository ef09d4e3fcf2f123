-- How the text of a line is put together: its first word, and then each word after a space. No public contract stands on it.
use Rattle.std.specs.Prelude.{ℕ, List, [], ◌∷◌, ◌++◌, map, codes}
use Rattle.std.specs.List.{flat_map}
use Rattle.proof_lines.specs.Ids.{deleted_words, id_word}
use Rattle.scut_base.specs.Bytes.{space}
use Rattle.scut_base.specs.Literal.{Literal}
use Rattle.pb_lin.specs.Constraint.{ConstraintValue}
use Rattle.proof_laws.specs.declared.line.Line.{Line}
use Rattle.proof_laws.specs.declared.line.Line.TheVariants.{Pol, Rup, Learn, Def, Red, Dom, Sol, Del, Reduce, End}
use Rattle.proof_lines.specs.LineText.{literal_word, variable_word, constraint_words, token_words, hinted_words, witnessed_words}
use Rattle.proof_lines.specs.declared.spelling.Spelling.{Spelling}

-- a word after a space
abbrev pub after_space : List ℕ → List ℕ
after_space word = space ∷ word

-- each word after a space
abbrev pub after_spaces : List (List ℕ) → List ℕ
after_spaces words = flat_map after_space words

abbrev pub definition_words : ℕ → ConstraintValue → List (List ℕ)
definition_words var sum = variable_word var ∷ codes ":" ∷ constraint_words sum

abbrev pub solution_words : Spelling → List Literal → List Literal → List ℕ → List (List ℕ)
solution_words spelling model cut rows = map literal_word model ++ codes ":" ∷ map literal_word cut ++ codes ":" ∷ map (id_word spelling) rows

-- the word that a line begins with
abbrev pub kind_word : Line → List ℕ
kind_word (Pol tokens) = codes "pol"
kind_word (Rup goal hints) = codes "rup"
kind_word (Learn goal hints) = codes "learn"
kind_word (Def var sum) = codes "def"
kind_word (Red goal witness proofs) = codes "red"
kind_word (Dom goal witness proofs) = codes "dom"
kind_word (Sol model cut rows) = codes "sol"
kind_word (Del ids) = codes "del"
kind_word (Reduce ids) = codes "reduce"
kind_word (End id) = codes "end"

-- the words after it
abbrev pub later_words : Spelling → Line → List (List ℕ)
later_words spelling (Pol tokens) = flat_map (token_words spelling) tokens
later_words spelling (Rup goal hints) = hinted_words spelling goal hints
later_words spelling (Learn goal hints) = hinted_words spelling goal hints
later_words spelling (Def var sum) = definition_words var sum
later_words spelling (Red goal witness proofs) = witnessed_words spelling goal witness proofs
later_words spelling (Dom goal witness proofs) = witnessed_words spelling goal witness proofs
later_words spelling (Sol model cut rows) = solution_words spelling model cut rows
later_words spelling (Del ids) = deleted_words spelling ids
later_words spelling (Reduce ids) = deleted_words spelling ids
later_words spelling (End id) = id_word spelling id ∷ []
