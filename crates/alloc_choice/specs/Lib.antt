pub mod Choice
pub mod Results
