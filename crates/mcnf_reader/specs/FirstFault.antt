-- The first fault of a text: the first bad place or reached limit, line by line, and in a line word by word from the left.
use Rattle.std.specs.Prelude.{ℕ, Bool, not, ◌+◌, ◌==◌, ◌&&◌, nat_lt, nat_le, if◌then◌else◌, List, [], ◌∷◌, ◌++◌, length, map, drop, slice_index, sum_by, codes, Option, Some, None}
use Rattle.std.specs.Option.{option_or, option_map}
use Rattle.std.specs.Str.{bytes_eq}
use Rattle.scut_base.specs.Number.{is_natural, natural_value, magnitude_text}
use Rattle.instance.specs.declared.fault.BadKind.{BadKind}
use Rattle.instance.specs.declared.fault.BadKind.TheVariants.{UnknownLine, ObjectiveIndex, WeightExpected, LiteralExpected, ZeroMissing, TextAfterZero, NumberTooWide}
use Rattle.instance.specs.declared.fault.InstanceLimit.TheVariants.{Vars, Weights, Objectives}
use Rattle.instance.specs.declared.fault.PlaceFault.{PlaceFault}
use Rattle.instance.specs.declared.fault.PlaceFault.TheVariants.{Bad, Limit}
use Rattle.instance.specs.declared.fault.ReadFault.{ReadFault}
use Rattle.instance.specs.Shape.{max_vars, max_objectives, magnitude_limit}
use Rattle.instance.specs.Reading.{at_line}
use Rattle.mcnf_reader.specs.Words.{letter_c, letter_o, lines_of, words_of}

-- a word that should be digits of a value below the limit, and is this kind of bad place where it isn't digits
abbrev pub number_fault : BadKind → List ℕ → Option PlaceFault
number_fault kind word =
    if not (is_natural word) then Some (Bad kind)
    else if nat_lt (natural_value word) magnitude_limit then None
    else Some (Bad NumberTooWide)

-- the number of an objective, from 1 to the largest
abbrev pub objective_number_fault : List ℕ → Option PlaceFault
objective_number_fault digits = option_or (number_fault UnknownLine digits)
    (if natural_value digits == 0 then Some (Bad ObjectiveIndex)
    else if nat_le (natural_value digits) max_objectives then None
    else Some (Limit Objectives))

-- the first word of a line that is neither a comment nor a hard clause: an `o` and the number of an objective
abbrev pub objective_fault : List ℕ → Option PlaceFault
objective_fault word = if slice_index word 0 == letter_o then objective_number_fault (drop 1 word) else Some (Bad UnknownLine)

-- a weight that is added to the weights so far
abbrev pub weight_fault : ℕ → List ℕ → Option PlaceFault
weight_fault so_far word = option_or (number_fault WeightExpected word)
    (if nat_lt (so_far + natural_value word) magnitude_limit then None else Some (Limit Weights))

-- a literal: a variable from 1 to the largest, after one minus or none
abbrev pub literal_fault : List ℕ → Option PlaceFault
literal_fault word = option_or (number_fault LiteralExpected (magnitude_text word))
    (if natural_value (magnitude_text word) == 0 then Some (Bad LiteralExpected)
    else if nat_le (natural_value (magnitude_text word)) max_vars then None
    else Some (Limit Vars))

-- the terminator: digits of value 0
abbrev pub is_zero : List ℕ → Bool
is_zero word = is_natural word && natural_value word == 0

-- what stands after the terminator
abbrev pub ending_fault : List (List ℕ) → Option PlaceFault
ending_fault [] = None
ending_fault (word ∷ words) = Some (Bad TextAfterZero)

-- literals, and then the terminator
abbrev pub clause_fault : List (List ℕ) → Option PlaceFault
clause_fault [] = Some (Bad ZeroMissing)
clause_fault (word ∷ words) = if is_zero word then ending_fault words else option_or (literal_fault word) (clause_fault words)

-- a weight and a clause
abbrev pub soft_fault : ℕ → List (List ℕ) → Option PlaceFault
soft_fault so_far [] = Some (Bad WeightExpected)
soft_fault so_far (word ∷ words) = option_or (weight_fault so_far word) (clause_fault words)

-- the weight that a line adds to objective k
abbrev pub weight_in : ℕ → List (List ℕ) → ℕ
weight_in k (first ∷ second ∷ words) = if slice_index first 0 == letter_o && natural_value (drop 1 first) == k then natural_value second else 0
weight_in k words = 0

-- the weights of objective k in these lines
abbrev pub weights_in : ℕ → List (List (List ℕ)) → ℕ
weights_in k lines = sum_by (weight_in k) lines

-- what is wrong with a line that follows these
abbrev pub line_fault : List (List (List ℕ)) → List (List ℕ) → Option PlaceFault
line_fault before [] = None
line_fault before (first ∷ words) =
    if slice_index first 0 == letter_c then None
    else if bytes_eq first (codes "h") then clause_fault words
    else option_or (objective_fault first) (soft_fault (weights_in (natural_value (drop 1 first)) before) words)

-- the first fault of lines that follow these
abbrev pub fault_after : List (List (List ℕ)) → List (List (List ℕ)) → Option ReadFault
fault_after before [] = None
fault_after before (line ∷ lines) = option_or (option_map (at_line (length before + 1)) (line_fault before line)) (fault_after (before ++ line ∷ []) lines)

abbrev pub first_fault : List ℕ → Option ReadFault
first_fault text = fault_after [] (map words_of (lines_of text))
