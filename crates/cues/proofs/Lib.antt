pub mod CueChanges
pub mod CueLaws
