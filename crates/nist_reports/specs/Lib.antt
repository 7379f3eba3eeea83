-- What the contracts of `nist_shake` cite.
pub mod Reports
