-- Files in memory as a finite map.
use Rattle.std.specs.Prelude.{ℕ, List, map, String, string_bytes}
use Rattle.std.specs.Coded.{Coded, coded_ℕ, coded_list}
use Rattle.std.specs.FinMap.{code, from_entries}
use Rattle.scut_base.specs.Files.{Files}

-- the files of a list of names with their bytes
unfoldable pub files_of : {Y : Type 0} → List (String Y × List ℕ) → Files
files_of files = from_entries (map (λ file. (string_bytes file.0, file.1)) files)

abbrev pub files_code : Coded Files
files_code = code (coded_list coded_ℕ) (coded_list coded_ℕ)
