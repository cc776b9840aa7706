mod Few
mod RestartLaws
