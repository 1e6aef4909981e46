pub mod SoundnessLemmas
