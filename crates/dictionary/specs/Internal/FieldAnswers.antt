-- The code's answers on fields.
use Rattle.dictionary.specs.declared.field.Description.{Description}
use Rattle.dictionary.specs.Format.{Format}

abbrev pub format_is : Description → Format
format_is x = record { type = x.data_type; scale = x.scale; size = x.size }
