-- The law that a standing image is its own rows placed again. Source: this project's own.
use Rattle.std.specs.Prelude.{◌≡◌, IsTrue}
use Rattle.cell_layout.specs.Image.{TableImage, rows_of}
use Rattle.cell_layout.specs.Layout.{placed}
use Rattle.cell_layout.specs.Valid.{is_valid}

-- The rows of a valid image, placed by its classes, stand as they stood.
abbrev pub StandsPlaced : Type 0
StandsPlaced = (image : TableImage) → IsTrue (is_valid image) → placed image.schema image.columns (rows_of image) ≡ image
