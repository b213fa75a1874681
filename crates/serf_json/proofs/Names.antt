-- The names that the proofs of this crate cite from std and from the definitions.
pub use Rattle.std.proofs.Common.{take, ◌++◌, ◌≡◌}
pub use Rattle.std.specs.List.{flat_map}
pub use Rattle.serf_json.specs.Json.{json_byte, more_numbers}
pub use Rattle.serf_json.specs.Object.{member_text}
