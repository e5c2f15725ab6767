mod FileLemmas
mod KnownLemmas
mod SessionLaws
mod RestartLemmas
mod CommitLaws
mod CrashLaws
