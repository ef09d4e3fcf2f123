-- The rows of every command's table that come of reading the instance file IN: its first fault, or that it is too large.
use Rattle.std.specs.Prelude.{ℕ, zero, ◌≤◌, ◌^◌, List, length}
use Rattle.instance.specs.declared.fault.InstanceLimit.TheVariants.{Bytes}
use Rattle.instance.specs.declared.fault.ReadFault.TheVariants.{Bad, Limit}
use Rattle.command_base.specs.Causes.{IsRefused}
use Rattle.command_base.specs.InstanceFile.{HasFault}
use Rattle.command_base.specs.Views.{View}
use Rattle.command_base.specs.declared.instance_file.Format.{Format}
use Rattle.command_base.specs.declared.status.Status.{Status}
use Rattle.command_base.specs.declared.status.Status.TheVariants.{BadInput, TooLarge}

-- a command's table ends with these rows, so with a last equation for all statuses that never come
abbrev pub InputTable : Format → List ℕ → Status → View → View → Type 0
InputTable format input (BadInput line kind) before after = IsRefused before after input (HasFault format (Bad line kind))
InputTable format input (TooLarge zero Bytes) before after = IsRefused before after input (λ text. 2 ^ 32 ≤ length text)
InputTable format input (TooLarge line which) before after = IsRefused before after input (HasFault format (Limit line which))
InputTable format input status before after = ⊥
