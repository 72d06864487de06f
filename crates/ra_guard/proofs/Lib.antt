pub mod RuleOrder
pub mod RuleOf
pub mod HeaderRules
pub mod Stopping
