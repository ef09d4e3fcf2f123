-- Trimmed proofs: the lines that the end needs, with new ids.
use Rattle.std.specs.Prelude.{ℕ, ◌+◌, Bool, true, false, ◌&&◌, ◌||◌, nat_le, nat_eq, if◌then◌else◌, List, [], ◌∷◌, ◌++◌, length, map, Option, None, Some, unwrap_or}
use Rattle.std.specs.List.{filter, flat_map, list_any, list_all}
use Rattle.std.specs.Map.{lookup}
use Rattle.pb_lin.specs.Problem.{ProblemValue}
use Rattle.cutting_planes.specs.declared.token.PolToken.{PolToken}
use Rattle.cutting_planes.specs.declared.token.PolToken.TheVariants.{Id as IdToken}
use Rattle.hint_rup.specs.declared.hint.Hint.{Hint}
use Rattle.hint_rup.specs.declared.hint.Hint.TheVariants.{Id as IdHint}
use Rattle.proof_laws.specs.declared.goal.Goal.{Goal}
use Rattle.proof_laws.specs.declared.goal.Goal.TheVariants.{Row}
use Rattle.proof_laws.specs.declared.goal.GoalProof.{GoalProof}
use Rattle.proof_laws.specs.declared.goal.GoalProof.TheVariants.{Rup as ByRup, Pol as ByPol}
use Rattle.proof_laws.specs.Steps.{made}
use Rattle.proof_laws.specs.declared.line.Line.{Line}
use Rattle.proof_laws.specs.declared.line.Line.TheVariants.{Pol, Rup, Learn, Def, Red, Dom, Sol, Del, Reduce, End}

-- ---- what a line makes and names

abbrev pub token_ids : PolToken → List ℕ
token_ids (IdToken id) = id ∷ []
token_ids token = []

abbrev pub hint_ids : Hint → List ℕ
hint_ids (IdHint id) = id ∷ []
hint_ids hint = []

abbrev pub proof_ids : GoalProof → List ℕ
proof_ids (ByRup hints) = flat_map hint_ids hints
proof_ids (ByPol tokens) = flat_map token_ids tokens

-- The ids that a line names: in tokens, hints and proofs, as rows of a solution, as the end. Neither a goal's own id is one, nor those that are deleted.
abbrev pub ids_named : Line → List ℕ
ids_named (Pol tokens) = flat_map token_ids tokens
ids_named (Rup goal hints) = flat_map hint_ids hints
ids_named (Learn goal hints) = flat_map hint_ids hints
ids_named (Def var sum) = []
ids_named (Red goal witness proofs) = flat_map (λ q. proof_ids q.1) proofs
ids_named (Dom goal witness proofs) = flat_map (λ q. proof_ids q.1) proofs
ids_named (Sol model cut rows) = rows
ids_named (Del ids) = []
ids_named (Reduce ids) = []
ids_named (End id) = id ∷ []

-- ---- what is needed, from the end

abbrev pub is_in : ℕ → List ℕ → Bool
is_in id ids = list_any (nat_eq id) ids

-- whether a line that would make the id n is needed, where later needed lines name these
abbrev pub is_needed : ℕ → Line → List ℕ → Bool
is_needed n (Def var sum) later = true
is_needed n (Del ids) later = false
is_needed n (Reduce ids) later = false
is_needed n (End id) later = true
is_needed n line later = is_in n later

-- the ids that needed lines among these name, where the first of them would make the id n
unfoldable pub needed_ids : ℕ → List Line → List ℕ
needed_ids n [] = []
needed_ids n (line ∷ lines) = (if is_needed n line (needed_ids (n + made line) lines) then ids_named line else []) ++ needed_ids (n + made line) lines

-- for each line whether it is needed
unfoldable pub needed : ℕ → List Line → List Bool
needed n [] = []
needed n (line ∷ lines) = is_needed n line (needed_ids (n + made line) lines) ∷ needed (n + made line) lines

-- ---- new ids

-- The ids of a problem's rows, which stay, and the old ids with the new ones, the latest first.
pub record Renaming : Type 0 where
  pub rows : ℕ
  pub made : List (ℕ × ℕ)

-- The new id of one that a row has, or a needed line before has made; 0 stays too. Other ids have none.
abbrev pub new_id : Renaming → ℕ → Option ℕ
new_id r id = if nat_le id r.rows then Some id else lookup (nat_eq id) r.made

-- the new id, or the old one where there is none
abbrev pub id_or_same : Renaming → ℕ → ℕ
id_or_same r id = unwrap_or (new_id r id) id

-- an id before others, if there is one
abbrev pub in_front : Option ℕ → List ℕ → List ℕ
in_front None ids = ids
in_front (Some id) ids = id ∷ ids

-- the new ids of those that have one
abbrev pub new_ids : Renaming → List ℕ → List ℕ
new_ids r [] = []
new_ids r (id ∷ ids) = in_front (new_id r id) (new_ids r ids)

abbrev pub new_token : Renaming → PolToken → PolToken
new_token r (IdToken id) = IdToken (id_or_same r id)
new_token r token = token

-- the hint of an id before others, if there is one
abbrev pub hint_in_front : Option ℕ → List Hint → List Hint
hint_in_front None hints = hints
hint_in_front (Some id) hints = IdHint id ∷ hints

-- the hints without those whose ids have no new one
abbrev pub new_hints : Renaming → List Hint → List Hint
new_hints r [] = []
new_hints r (IdHint id ∷ hints) = hint_in_front (new_id r id) (new_hints r hints)
new_hints r (hint ∷ hints) = hint ∷ new_hints r hints

-- whether an id is that of a row of the problem, or of a line that a needed one before has made
abbrev pub is_kept : Renaming → ℕ → Bool
is_kept r id = (nat_le 1 id && nat_le id r.rows) || list_any (λ e. nat_eq id e.0) r.made

abbrev pub is_kept_goal : Renaming → Goal → Bool
is_kept_goal r (Row id) = is_kept r id
is_kept_goal r goal = true

abbrev pub is_kept_proof : Renaming → GoalProof → Bool
is_kept_proof r (ByRup hints) = true
is_kept_proof r (ByPol tokens) = list_all (is_kept r) (flat_map token_ids tokens)

abbrev pub new_goal : Renaming → Goal → Goal
new_goal r (Row id) = Row (id_or_same r id)
new_goal r goal = goal

abbrev pub new_proof : Renaming → GoalProof → GoalProof
new_proof r (ByRup hints) = ByRup (new_hints r hints)
new_proof r (ByPol tokens) = ByPol (map (new_token r) tokens)

-- the proofs of goals that are still there, of which no tokens name a line that is gone
abbrev pub new_proofs : Renaming → List (Goal × GoalProof) → List (Goal × GoalProof)
new_proofs r proofs = map (λ q. (new_goal r q.0, new_proof r q.1)) (filter (λ q. is_kept_goal r q.0 && is_kept_proof r q.1) proofs)

-- the line with new ids
abbrev pub new_line : Renaming → Line → Line
new_line r (Pol tokens) = Pol (map (new_token r) tokens)
new_line r (Rup goal hints) = Rup goal (new_hints r hints)
new_line r (Learn goal hints) = Learn goal (new_hints r hints)
new_line r (Def var sum) = Def var sum
new_line r (Red goal witness proofs) = Red goal witness (new_proofs r proofs)
new_line r (Dom goal witness proofs) = Dom goal witness (new_proofs r proofs)
new_line r (Sol model cut rows) = Sol model cut (map (id_or_same r) rows)
new_line r (Del ids) = Del (new_ids r ids)
new_line r (Reduce ids) = Reduce (new_ids r ids)
new_line r (End id) = End (id_or_same r id)

-- ---- the list

-- whether some of the ids was made by a needed line before
abbrev pub holds_made : Renaming → List ℕ → Bool
holds_made r ids = list_any (λ id. list_any (λ e. nat_eq id e.0) r.made) ids

-- whether a line is kept: it is needed, or it deletes what a needed line has made
abbrev pub stays : Renaming → Bool → Line → Bool
stays r need (Del ids) = holds_made r ids
stays r need (Reduce ids) = holds_made r ids
stays r need line = need

-- the renaming after a line that is kept, where the next ids are n and k
abbrev pub renamed_after : Renaming → Line → ℕ → ℕ → Renaming
renamed_after r (Def var sum) n k = record { rows = r.rows; made = (n + 1, k + 1) ∷ (n, k) ∷ r.made }
renamed_after r (Del ids) n k = r
renamed_after r (Reduce ids) n k = r
renamed_after r (End id) n k = r
renamed_after r line n k = record { rows = r.rows; made = (n, k) ∷ r.made }

-- the lines that are kept, with new ids, where the next ids are n and k
unfoldable pub kept_lines : Renaming → ℕ → ℕ → List Bool → List Line → List Line
kept_lines r n k [] lines = []
kept_lines r n k (need ∷ needs) [] = []
kept_lines r n k (need ∷ needs) (line ∷ lines) =
    if stays r need line then new_line r line ∷ kept_lines (renamed_after r line n k) (n + made line) (k + made line) needs lines
    else kept_lines r (n + made line) k needs lines

-- before all lines
abbrev pub no_renaming : ProblemValue → Renaming
no_renaming p = record { rows = length p.rows; made = [] }

-- the trimmed lines
abbrev pub trimmed : ProblemValue → List Line → List Line
trimmed p lines = kept_lines (no_renaming p) (length p.rows + 1) (length p.rows + 1) (needed (length p.rows + 1) lines) lines
