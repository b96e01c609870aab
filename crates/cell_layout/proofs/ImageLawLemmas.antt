-- The laws of the layout, from those of classes and codes.
use Rattle.std.proofs.Common.{◌++◌}
use Rattle.order_codes.specs.Codes.{DecodesFound}
use Rattle.column_classes.specs.ColumnClasses.{ClassesAreDivided, classes_for}
use Rattle.cell_layout.specs.Image.{rows_of}
use Rattle.cell_layout.specs.Valid.{LaidIsValid, GrownIsValid}
use Rattle.cell_layout.proofs.PlacedImageLemmas.{placed_valid, valid_parts}

pub laid_is_valid : ClassesAreDivided → DecodesFound → LaidIsValid
laid_is_valid divided decodes schema rows may = placed_valid decodes schema (classes_for schema rows) rows (divided schema rows may.few may.fit) may

pub grown_is_valid : DecodesFound → GrownIsValid
grown_is_valid decodes image rows valid may = placed_valid decodes image.schema image.columns (rows_of image ++ rows) (valid_parts image valid).divided may
