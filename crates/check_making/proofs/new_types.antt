pub mod ArrayLists
pub mod Cells
pub mod LayoutsSoFar
pub mod FieldLists
pub mod WholeRecords
pub mod PointerParts
pub mod LegalArrays
