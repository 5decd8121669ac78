pub mod SoundJobs
