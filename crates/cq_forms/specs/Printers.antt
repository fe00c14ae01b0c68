-- What a printer prints.
use Rattle.std.specs.Prelude.{ℕ, List}
use Rattle.cq_forms.specs.Forms.{formed}
use Rattle.cq_forms.specs.Names.{name_in}
use Rattle.cq_forms.specs.declared.forms.Printer.{Printer}
use Rattle.cq_model.specs.Finds.{Placed}

-- a message in the form of the printer, with its names of cycles
abbrev pub printed : Printer → Placed → List ℕ
printed printer found = formed printer.form (name_in printer.names.items) found
