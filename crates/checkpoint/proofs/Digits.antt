-- How many digits numbers have.
pub use Rattle.control_replies.proofs.Lines.{twenty_digits}
