pub mod LineWidths
