pub mod SourceInputs
